pub mod Answers
pub mod Certificates
