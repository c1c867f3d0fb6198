-- writer: the line writer, which keeps a lent buffer and how far it is filled.
pub mod Writer
