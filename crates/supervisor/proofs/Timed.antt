-- The time that each engine reports is what document 02 says of it: units left over are 0 to 5, with six times the minutes they make the cost, and
-- unused and cost make the bound. Assumes nothing.
use Prim.Native.Nat.{ℕ}
use mathlib.Core.Path.{◌≡◌, refl, sym}
use mathlib.Core.List.{List}
use native.Mathlib.Omega.{arith}
use Rattle.search_answer.specs.declared.Listing.{Listing}
use Rattle.std.proofs.Common.{Result, Ok, Err}
use Rattle.refusal.specs.declared.Refusal.{Refusal}
use Rattle.search_answer.specs.Lent.{Lent}
use Rattle.search_answer.specs.Search.{search_of}
use Rattle.search.proofs.Demands.{search_within}
use Rattle.states_answer.specs.declared.Summary.{Summary}
use Rattle.states_answer.specs.Lent.{Lent as StateLists}
use Rattle.states_answer.specs.States.{states_of}
use Rattle.states.proofs.Demands.{states_within_lem}
use Rattle.shift_time.specs.declared.Time.{Time}
use Rattle.shift_time.specs.Time.{time_of, TellsTime}
use Rattle.shift_time.proofs.Words.{time_tells}
use Rattle.reports.specs.declared.Totals.{Totals}
use Rattle.reports.specs.Totals.{totals_of}
use Rattle.reports.specs.declared.Tally.{Tally}
use Rattle.reports.specs.Tallies.{tally_of}
use Rattle.supervisor.specs.Reports.{Reports, ReportsStates}

-- of the figures of a search that found a plan
pub search_time : (f : List ℕ) (before : Lent) (l : Listing) → Ok l ≡ search_of f before → TellsTime l.cost l.bound (time_of l.cost l.bound)
search_time f before l e = time_tells l.cost l.bound (search_within f before l e)

-- the three numbers in the totals for C
abbrev pub time_in : Totals → Time
time_in r = record { minutes = r.minutes; units = r.units; unused = r.unused }

-- of the totals of every search, a refusal's too
pub totals_time : (f : List ℕ) (before after : Lent) (r : Totals) → Reports f before after r → TellsTime r.cost r.bound (time_in r)
totals_time f before after r s = rw s.answers (by (search_of f before) refl)
  where
    by : (x : Result Listing Refusal) → search_of f before ≡ x → TellsTime (totals_of x).cost (totals_of x).bound (time_in (totals_of x))
    by (Err refusal) e = record { units = omega arith; spent = omega arith; whole = omega arith }
    by (Ok l) e = search_time f before l (sym e)

-- the same of the engine that lists states
pub states_time : (f : List ℕ) (before : StateLists) (m : Summary) → Ok m ≡ states_of f before → TellsTime m.cost m.bound (time_of m.cost m.bound)
states_time f before m e = time_tells m.cost m.bound (states_within_lem f before m e)

-- the three numbers in the tally for C
abbrev pub time_of_tally : Tally → Time
time_of_tally r = record { minutes = r.minutes; units = r.units; unused = r.unused }

-- of the tally of every list of states, a refusal's too
pub tally_time : (f : List ℕ) (before after : StateLists) (r : Tally) → ReportsStates f before after r → TellsTime r.cost r.bound (time_of_tally r)
tally_time f before after r s = rw s.answers (by (states_of f before) refl)
  where
    by : (x : Result Summary Refusal) → states_of f before ≡ x → TellsTime (tally_of x).cost (tally_of x).bound (time_of_tally (tally_of x))
    by (Err refusal) e = record { units = omega arith; spent = omega arith; whole = omega arith }
    by (Ok m) e = states_time f before m (sym e)
