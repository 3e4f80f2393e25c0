-- Definitions that no public contract names: the table's rows, what the rest of a strip can still do, which numbers the pass holds, and what
-- its functions ask and give.
pub mod Row
pub mod Rest
pub mod SixteenBits
pub mod OneMark
pub mod Table
