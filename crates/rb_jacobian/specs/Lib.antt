-- Read `Rules` first: the vector of a row and its value. `Jacobian` has the table that they give, `Laws`
-- says what is known of it, and `Impact` what an impact makes of it.
pub mod Rules
pub mod Jacobian
pub mod Laws
pub mod Impact
