-- basics: what every layer cites and no sentence of the papers states.
pub mod Choice
pub mod Member
pub mod All
pub mod Table
pub mod Sum
pub mod Laws
