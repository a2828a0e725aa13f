mod Doubling
mod LineLemmas
