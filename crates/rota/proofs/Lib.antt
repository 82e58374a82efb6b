-- The definitions of specs/, each tried on a small input.
pub mod Examples
