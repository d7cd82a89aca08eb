-- Laws: comparing keys, the search, and what opening, closing and entering do to the tables. Assumes nothing.
pub mod Keys
pub mod Search
pub mod Stack
