-- What the open functions promise for every workload value and every area. Believed.
use Rattle.std.specs.Prelude.{List, ◌++◌, ◌≡◌, ℕ, length, drop, Result, Ok, Err}
use Rattle.refusal.specs.declared.Fault.{Fault}
use Rattle.refusal.specs.Refusing.{refusal_in}
use Rattle.spec_text.specs.declared.Workload.{Workload}
use Rattle.spec_text.specs.Value.{lines_of}
use Rattle.spec_graph.specs.Unfolding.{nodes_of}
use Rattle.spec_report.specs.State.{StateRefusal, short_for_unfoldings}
use Rattle.unfold_laws.specs.Places.{place_words}
use Rattle.unfold.specs.declared.Unfolded.{Unfolded}
use Rattle.unfold.specs.UnfoldTold.{ids_in, nodes_told}

-- a refusal leaves the area; else the nodes are told, and their ids stand from the area's start on
pub record Settled (w : Workload) (before : List ℕ) (r : Result Unfolded Fault) (area : List ℕ) : Type 0 where
  pub refusal : StateRefusal w (short_for_unfoldings (lines_of w) (length before)) (refusal_in r)
  pub refused : (f : Fault) → r ≡ Err f → area ≡ before
  pub unfolded : (u : Unfolded) → r ≡ Ok u
      → (u ≡ nodes_told (nodes_of (lines_of w))) × (area ≡ ids_in (nodes_of (lines_of w)) ++ drop (length (ids_in (nodes_of (lines_of w)))) before)

-- the same refusals; else the nodes are told, and the words of their places stand from the area's start on
pub record PlacesSettled (w : Workload) (before : List ℕ) (r : Result Unfolded Fault) (area : List ℕ) : Type 0 where
  pub refusal : StateRefusal w (short_for_unfoldings (lines_of w) (length before)) (refusal_in r)
  pub refused : (f : Fault) → r ≡ Err f → area ≡ before
  pub unfolded : (u : Unfolded) → r ≡ Ok u
      → (u ≡ nodes_told (nodes_of (lines_of w)))
      × (area ≡ place_words (lines_of w) (nodes_of (lines_of w)) ++ drop (length (place_words (lines_of w) (nodes_of (lines_of w)))) before)
