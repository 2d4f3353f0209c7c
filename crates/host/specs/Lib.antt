-- How a host lays out in words what the layers below take and return: the rest of what it promises is theirs.
pub mod Words
