-- What the clauses of private functions cite.
pub mod OnMachines
pub mod Reading
