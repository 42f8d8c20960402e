-- Read `Paths` first: columns, their ancestors, and what is zero off the paths. `Factors` has what the elimination of a table gives, and `Solving`
-- how equations are solved by factors: both over any numbers, at fractions or at intervals. `Product` has the table that given factors have, and
-- `Laws` says what is known of them; `Examples` has one in numbers.
pub mod Paths
pub mod Factors
pub mod Solving
pub mod Product
pub mod Laws
pub mod Examples
