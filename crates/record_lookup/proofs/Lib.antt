-- What the record that is handed out is.
pub mod Laws
