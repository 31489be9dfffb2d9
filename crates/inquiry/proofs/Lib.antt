mod Greatest
mod Left
mod Held
mod Books
mod Examples
