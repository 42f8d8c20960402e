-- Read Interval first, which says what an interval is, and Fraction: which fractions lie in it, and what each operation encloses. Dot,
-- Quotient and Hull have the value of each operation, Least says that it is rounded no further than it must be, Sine says which pairs are
-- the sine and the cosine of an angle, and Laws what holds of all these. Refusing and Arith serve the crates above: the operations with
-- their refusals as values, and the numbers that a rule is written over. Text says how an interval is printed. Sums has sums of products on the way, before they are rounded. Scaffolding are the tests of conditions, such as `is_within`, and
-- Narrow and Divisor, which private functions alone cite.
pub mod Interval
pub mod Fraction
pub mod Dot
pub mod Sums
pub mod Quotient
pub mod Hull
pub mod Refusing
pub mod Arith
pub mod Least
pub mod Sine
pub mod Laws
pub mod Text
pub mod Narrow
pub mod Divisor
pub mod Reciprocal
