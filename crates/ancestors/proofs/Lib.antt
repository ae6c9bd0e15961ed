mod Lacks
mod Siblings
mod Document
