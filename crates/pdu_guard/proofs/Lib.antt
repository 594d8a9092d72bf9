mod Agreement
mod AmFacts
mod SearchFacts
