-- settings_line: decimal numbers read at a cursor, and the settings line `q,n,k`.
pub mod Decimal
pub mod SettingsLine
pub mod Theorems
pub mod Laws
