-- clients: what a drawn record comes back as, in C's terms.
pub mod RoundTrip
