-- What a reader has to believe: the text of an answer (`Text`). `Inner` is the writers' own.
pub mod Text
pub mod Inner
