-- What crosses the C interface.
pub mod Numbers
