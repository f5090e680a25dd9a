-- Keys added one by one, in any order: the inserts of a sequence and orders of a set (Inserts); every order follows the
-- feeding of keys, and where all fit it leaves the words of a bulk load (Orders); where not all fit, every order lists
-- equally many, and no choice lists more (Overfull); and so of any list of entries, several issues of a card or blank
-- keys among them (AnyList).
pub mod Inserts
pub mod Orders
pub mod Overfull
