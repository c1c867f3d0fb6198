-- receive: the call Receive, and the answer for a span, which Close gives too.
pub mod Answer
pub mod Receive
