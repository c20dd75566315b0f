-- What is computed in another way than it is defined, or stands between a definition and the code.
pub mod Load
pub mod View
pub mod Words
