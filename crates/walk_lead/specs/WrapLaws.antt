-- What the leads and the start found tell of the edges: to which nodes pairs lead, and by way of which node, the lowest, one with a way back does.
use Rattle.std.specs.Prelude.{◌≡◌, Bool, List, get_or}
use Rattle.std.proofs.Math.Path.{sym, ap}
use Rattle.std.proofs.Common.{◌∙◌, ltb-true}
use Rattle.std.proofs.Math.Bool.{true}
use Prim.Native.Nat.{ℕ, ◌≤◌, ◌<◌, zero-le, min}
use native.Mathlib.Omega.{arith}
use Rattle.std.proofs.Math.Decide.{dec_lt}
use Rattle.spec_base.specs.Basic.{any, numbers, has}
use Rattle.law_base.specs.BoolLaws.{false_of}
use Rattle.law_base.specs.ListLaws.{any_numbers, any_numbers_of}
use Rattle.law_base.specs.SetLaws.{meets_has, has_meets}
use Rattle.pick_laws.specs.Pick.{dangerous_picks, reaches}
use Rattle.pick_laws.specs.Completing.{opens_below, leaves_at, leads}
use Rattle.edge_word.specs.Coding.{entry, forwards_in, backs_in}
use Rattle.edge_opens.specs.OpensLaws.{opens_none, dangerous_words}
use Rattle.walk_nodes.specs.Nodes.{rows_in}
use Rattle.walk_reach.specs.Layers.{joined_rows, layer}
use Rattle.walk_nodes.specs.NodeWordLaws.{word_in, word_inside, word_none, list_at, rows_at}
use Rattle.walk_reach.specs.LayerLaws.{entry_past, layer_has}
use Rattle.walk_nodes.specs.NodeWordLaws.{rows_bound}
use Rattle.walk_reach.specs.Search.{first_from}
use Rattle.walk_reach.specs.SearchLaws.{first_passes, first_bound, first_least}
use Rattle.walk_lead.specs.Leads.{leads_along, leads_through, leads_by, lead_row, leads_filled, lead_rows}
use Rattle.walk_lead.specs.Leads.{layers_at, wraps_from, wraps_among, wrap_start}

-- a dangerous pair by way of v leads from some node to one from which it is reached in at most d steps, among n nodes
abbrev pub Wraps : List ℕ → List ℕ → ℕ → ℕ → ℕ → Type 0
Wraps forwards backs n d v = (u : ℕ) × (w : ℕ) × (u < n) × (w < n) × (dangerous_picks (forwards_in forwards u v) (backs_in backs v w) ≡ true)
    × (reaches (forwards_in forwards) n u d w ≡ true)

-- from a node without a row of forward edges no pair leads
no_edge : (forwards backs : List ℕ) (u v w : ℕ) → u < 64 → rows_in forwards ≤ u
    → dangerous_picks (forwards_in forwards u v) (backs_in backs v w) ≡ true → ⊥
no_edge forwards backs u v w h l e =
    let none = ltb-true (leaves_at (backs_in backs v w)) (opens_below (forwards_in forwards u v))
    (sym (dangerous_words (entry forwards u v) (entry backs v w)) ∙ e) in
    let past = opens_none (entry forwards u v) (entry_past forwards u v l h) in let z : ⊥ = omega arith in z

lead_past : (forwards backs : List ℕ) (u : ℕ) → u < 64 → rows_in forwards ≤ u → lead_row forwards backs u ≡ 0
unfolding lead_row leads
lead_past forwards backs u h l =
    word_none (leads (forwards_in forwards) (backs_in backs) 64 u)
    (λ w. false_of _ (λ e. let f = any_numbers (λ v. dangerous_picks (forwards_in forwards u v) (backs_in backs v w)) 64 e in
    no_edge forwards backs u f.0 w h l f.2))
    64

module _ (forwards backs : List ℕ) (n : ℕ) (full : n ≡ 64) where
  -- the row of a node, and that it has nodes alone
  lead_at : (u : ℕ) → u < n → get_or (lead_rows forwards backs) u 0 ≡ lead_row forwards backs u
  unfolding lead_rows leads_filled
  lead_at u h = rows_at (lead_row forwards backs) (rows_in forwards) (rows_bound forwards) u (lead_past forwards backs u (omega arith))

  pub lead_inside : (u w : ℕ) → u < n → has (get_or (lead_rows forwards backs) u 0) w ≡ true → w < n
  unfolding lead_row
  lead_inside u w a h =
      let l = word_inside (leads (forwards_in forwards) (backs_in backs) 64 u) 64 w (ap (λ (x : ℕ). has x w) (sym (lead_at u a)) ∙ h) in omega arith

  -- the row of a node has those to which a dangerous pair leads from it
  pub leads_has : (u w : ℕ) → u < n → w < n → has (get_or (lead_rows forwards backs) u 0) w ≡ leads (forwards_in forwards) (backs_in backs) n u w
  unfolding lead_row
  leads_has u w a b =
      ap (λ (x : ℕ). has x w) (lead_at u a) ∙ word_in (leads (forwards_in forwards) (backs_in backs) 64 u) 64 w (omega arith)
      ∙ ap (λ (k : ℕ). leads (forwards_in forwards) (backs_in backs) k u w) (sym full)

  -- ---- the start

  -- the layer of a node
  reach_at : (d u : ℕ) → u < rows_in forwards → get_or (layers_at (joined_rows forwards) d (rows_in forwards)) u 0 ≡ layer (joined_rows forwards) u d
  unfolding layers_at
  reach_at d u h = list_at (λ x. layer (joined_rows forwards) x d) (rows_in forwards) u (rows_bound forwards) h

  -- the nodes to which a pair leads from u by way of v
  through_has : (u v w : ℕ) → w < n
      → has (leads_through backs (entry forwards u v) v) w ≡ dangerous_picks (forwards_in forwards u v) (backs_in backs v w)
  unfolding leads_through leads_along
  through_has u v w h = word_in (leads_along backs (entry forwards u v) v) 64 w (omega arith)

  through_inside : (u v w : ℕ) → has (leads_through backs (entry forwards u v) v) w ≡ true → w < n
  unfolding leads_through
  through_inside u v w h = let l = word_inside (leads_along backs (entry forwards u v) v) 64 w h in omega arith

  -- as the search tests it
  abbrev reach : ℕ → List ℕ
  reach d = layers_at (joined_rows forwards) d (rows_in forwards)

  abbrev test : ℕ → ℕ → Bool
  test d = wraps_among forwards backs (reach d) (rows_in forwards)

  -- the search's test passes for just the nodes by way of which a pair leads so
  wraps_found : (d v : ℕ) → test d v ≡ true → Wraps forwards backs n d v
  unfolding wraps_among wraps_from leads_by
  wraps_found d v h =
      let f = any_numbers (wraps_from forwards backs (reach d) v) (rows_in forwards) h in
      let u = f.0 in
      let few = rows_bound forwards in
      let inside : u < n = omega (arith, f.1) in
      let t = meets_has _ _ f.2 in
      let l = through_inside u v t.0 t.1 in
      let r : has (layer (joined_rows forwards) u d) t.0 ≡ true = ap (λ (x : ℕ). has x t.0) (sym (reach_at d u f.1)) ∙ t.2 in (
        u,
        t.0,
        inside,
        l,
        sym (through_has u v t.0 l) ∙ t.1,
        sym (layer_has forwards n full u d t.0 l) ∙ r,
      )

  wraps_of : (d v u w : ℕ) → u < n → w < n → dangerous_picks (forwards_in forwards u v) (backs_in backs v w) ≡ true
      → reaches (forwards_in forwards) n u d w ≡ true → test d v ≡ true
  unfolding wraps_among wraps_from leads_by
  wraps_of d v u w b c h l = go (dec_lt u (rows_in forwards))
    where
      go : Dec (u < rows_in forwards) → any (wraps_from forwards backs (reach d) v) (numbers (rows_in forwards)) ≡ true
      go (yes i) =
          any_numbers_of (wraps_from forwards backs (reach d) v) (rows_in forwards) u i
          (has_meets _ _ w (through_has u v w c ∙ h) (ap (λ (x : ℕ). has x w) (reach_at d u i) ∙ layer_has forwards n full u d w c ∙ l))
      go (no i) = absurd (no_edge forwards backs u v w (omega arith) (omega arith) h)

  -- a pair by way of the node found leads so
  pub wrap_found : (d below : ℕ) → wrap_start forwards backs (joined_rows forwards) d below < below → below ≤ n
      → Wraps forwards backs n d (wrap_start forwards backs (joined_rows forwards) d below)
  unfolding wrap_start
  wrap_found d below h small =
      wraps_found d (first_from (test d) (min below 64) 0) (first_passes (test d) (min below 64) 0 (omega arith))

  -- and none by way of a lower one does
  pub wrap_least : (d below v u w : ℕ) → v < below → v < n → u < n → w < n
      → dangerous_picks (forwards_in forwards u v) (backs_in backs v w) ≡ true → reaches (forwards_in forwards) n u d w ≡ true
      → wrap_start forwards backs (joined_rows forwards) d below ≤ v
  unfolding wrap_start
  wrap_least d below v u w b c i j h l = first_least (test d) (min below 64) 0 v zero-le (omega arith) (wraps_of d v u w i j h l)

  -- where none does, it is at most the bound
  pub wrap_bound : (d below : ℕ) → wrap_start forwards backs (joined_rows forwards) d below ≤ below
  unfolding wrap_start
  wrap_bound d below = let h = first_bound (test d) (min below 64) 0 in omega arith
