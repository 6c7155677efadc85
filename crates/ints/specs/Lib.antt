pub mod Sums
pub mod Tests
pub mod Divisors
