-- Laws of orders in lists that are lent, callees first. Assumes nothing.
mod Orders
mod Places
mod Lending
mod Walking
mod Bodies
