-- A search's answer as C gets it: the documents' number and value, and the figures.
use Rattle.std.specs.Prelude.{ℕ, Result}
use Rattle.search_answer.specs.declared.Listing.{Listing}
use Rattle.refusal.specs.declared.Refusal.{Refusal}
use Rattle.search_answer.specs.Answers.{numbers, figures}
use Rattle.shift_time.specs.Time.{time_of}
use Rattle.reports.specs.declared.Totals.{Totals}

-- a number, a value, and the figures of a listing with its time
abbrev pub totals_with : ℕ → ℕ → Listing → Totals
totals_with number value l = record {
  number = number;
  value = value;
  utility = l.utility;
  ceiling = l.ceiling;
  cost = l.cost;
  bound = l.bound;
  minutes = (time_of l.cost l.bound).minutes;
  units = (time_of l.cost l.bound).units;
  unused = (time_of l.cost l.bound).unused;
  nodes = l.nodes;
  entries = l.entries;
  pairs = l.pairs;
  steps = l.steps;
}

-- the search's number and value, and the figures of the listing, all 0 after a refusal
abbrev pub totals_of : Result Listing Refusal → Totals
totals_of r = totals_with (numbers r).0 (numbers r).1 (figures r)
