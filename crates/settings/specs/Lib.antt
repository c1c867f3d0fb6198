-- settings: the settings that are accepted, and Count.
pub mod Settings
pub mod Laws
