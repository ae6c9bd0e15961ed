-- Laws that pin the definitions, with nothing computed: a reader of the meaning needs none of them.
-- plain mathematics: tests, finite sums and lists
pub mod Tests
pub mod Finite
pub mod Lists
pub mod Arranged
-- labels, trees, facts, the settled set as the least one, and why every rule of settling is sound
pub mod Labels
pub mod Trees
pub mod Facts
pub mod Least
pub mod Holds
pub mod Constraints
-- a constraint file as its records
pub mod Records
-- joins: the first is one, and one of its alternatives holds; how many alternatives a search enters
pub mod Joins
pub mod Choices
-- the search sees its facts as a set, so the answer depends on the set of given facts
pub mod Congruence
pub mod SameAnswer
-- how many nodes are read off
pub mod Nodes
-- questions set as paths: the records of four texts, what every sheet of records has, how many variables and records there are, and when the
-- records can be met
pub mod PathCases
pub mod PathSheets
pub mod PathCounts
pub mod PathMoves
pub mod PathMeaning
-- what the solver's answers say of the constraints
pub mod Said
-- shuffled papers: records in another order; variables that no record names; variables renumbered
pub mod Reordered
pub mod Shuffled
pub mod Unnamed
pub mod Renumbered
-- one pass: what is kept between two records
pub mod OnePass
-- capitals: files that are equal but for the case of their labels are judged alike, and get one answer
pub mod RecasedFiles
pub mod Capitals
pub mod PathCapitals
-- trees as XML: a few computed; a tree is one ordered tree, and the records in document order are it
pub mod XmlCases
pub mod XmlTrees
-- centres that share the machine: a few lists, and draws from them
pub mod CentreCases
