-- Document 01's number and values for each answer of the search.
use Rattle.std.specs.Prelude.{ℕ, Result, Ok, Err}
use Rattle.refusal.specs.Refusals.{number, place}
use Rattle.refusal.specs.declared.Refusal.{Refusal}
use Rattle.search_answer.specs.declared.Listing.{Listing}

-- a refusal's number and value; 0 and 0 for success
abbrev pub numbers : Result Listing Refusal → ℕ × ℕ
numbers (Err refusal) = (number refusal, place refusal)
numbers (Ok listing) = (0, 0)

abbrev pub no_figures : Listing
no_figures = record { utility = 0; ceiling = 0; cost = 0; bound = 0; nodes = 0; entries = 0; pairs = 0; steps = 0 }

-- the figures of the listing, which success adds; all 0 after a refusal
abbrev pub figures : Result Listing Refusal → Listing
figures (Err refusal) = no_figures
figures (Ok listing) = listing
