-- What a reader has to believe of the answers for C: the number and the values of each.
pub mod Numbers
