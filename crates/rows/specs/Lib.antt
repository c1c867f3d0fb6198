-- rows: operations on rows in lent bytes.
pub mod Laws
