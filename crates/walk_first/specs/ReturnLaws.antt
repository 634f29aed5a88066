-- What the search for the shortest return tells of the edges: some pair has a way back of so many steps, and none has a shorter one.
use Rattle.std.specs.Prelude.{◌≡◌, Bool, true, List, get_or}
use Rattle.std.proofs.Math.Path.{sym}
use Rattle.std.proofs.Common.{ap, ◌∙◌}
use Prim.Native.Nat.{ℕ, ◌≤◌, ◌<◌, zero-le}
use native.Mathlib.Omega.{arith}
use Rattle.law_base.specs.SetLaws.{meets_has, has_meets}
use Rattle.pick_laws.specs.Pick.{reaches}
use Rattle.pick_laws.specs.Completing.{leads}
use Rattle.pick_laws.specs.LeastLaws.{least_most, least_at, least_some}
use Rattle.edge_word.specs.Coding.{forwards_in, backs_in}
use Rattle.walk_reach.specs.Layers.{joined_rows}
use Rattle.walk_reach.specs.LayerLaws.{layer_has}
use Rattle.walk_reach.specs.SearchLaws.{first_passes, first_least}
use Rattle.walk_lead.specs.Leads.{lead_rows}
use Rattle.walk_lead.specs.WrapLaws.{lead_inside, leads_has}
use Rattle.walk_return.specs.Returns.{meets_at, first_meeting, return_from, shortest_return}
use Rattle.walk_first.specs.FirstSteps.{return_in}

module _ (forwards backs : List ℕ) (n : ℕ) (full : n ≡ 64) where
  -- a node to which a pair leads from u is in layer d
  abbrev meets_from : ℕ → ℕ → Bool
  meets_from u = meets_at (joined_rows forwards) (get_or (lead_rows forwards backs) u 0) u

  -- a pair has a way back of the fewest steps
  pub return_found : return_in forwards backs < 64
      → (u : ℕ) × (w : ℕ) × (u < n) × (w < n) × (leads (forwards_in forwards) (backs_in backs) n u w ≡ true)
      × (reaches (forwards_in forwards) n u (return_in forwards backs) w ≡ true)
  unfolding shortest_return return_from first_meeting meets_at
  return_found h =
      let f = least_some (return_from (joined_rows forwards) (lead_rows forwards backs)) 64 64 h in
      let u = f.0 in
      let inside : u < n = omega arith in
      let p = first_passes (meets_from u) 64 0 (omega arith) in
      let t = meets_has _ _ (ap (meets_from u) (sym f.2) ∙ p) in
      let l = lead_inside forwards backs n full u t.0 inside t.1 in (
        u,
        t.0,
        inside,
        l,
        sym (leads_has forwards backs n full u t.0 inside l) ∙ t.1,
        sym (layer_has forwards n full u (return_in forwards backs) t.0 l) ∙ t.2,
      )

  -- and none has one of fewer
  pub return_least : (u w r : ℕ) → u < n → w < n → r < 64 → leads (forwards_in forwards) (backs_in backs) n u w ≡ true
      → reaches (forwards_in forwards) n u r w ≡ true → return_in forwards backs ≤ r
  unfolding shortest_return return_from first_meeting meets_at
  return_least u w r a b c h l =
      let p = has_meets _ _ w (leads_has forwards backs n full u w a b ∙ h) (layer_has forwards n full u r w b ∙ l) in
      let first = first_least (meets_from u) 64 0 r zero-le (omega arith) p in
      let least = least_at (return_from (joined_rows forwards) (lead_rows forwards backs)) 64 64 u (omega arith) in omega arith

  -- 64 where none has any
  pub return_bound : return_in forwards backs ≤ 64
  unfolding shortest_return
  return_bound = least_most (return_from (joined_rows forwards) (lead_rows forwards backs)) 64 64
