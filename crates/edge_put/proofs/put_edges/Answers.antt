-- Where the edges do not fit, the area stays; else each turn puts the edge that `next_edge` gives, or leaves the loop.
use Rattle.std.specs.Prelude.{Ok}
use Rattle.std.proofs.Common.{◌≡◌, ◌+◌, ◌<◌, length, arith, ◌∙◌, ap, refl, sym, subst, true, Bool, ℕ, List}
use Rattle.std.proofs.Math.Dec.{leb}
use Rattle.std.proofs.Math.ListN.{set}
use borrow.Author.Tests.{leb-false}
use Rattle.edge_record.specs.declared.Edge.{Edge}
use Rattle.edge_count.specs.Slots.{table_edges, edges_below}
use Rattle.edge_put.specs.declared.Cursor.{Cursor}
use Rattle.edge_put.specs.Cursors.{slot_of, Begun, Standing, Found}
use Rattle.edge_put.specs.Put.{records, put_first, answer_for, put_said, PutAs}
use Rattle.edge_put.specs.Put.PutAs.{short}
use Rattle.edge_put.specs.PutLaws.{Kept, kept_start, kept_more, kept_edge, kept_below, put_none, put_length, put_more, put_ended}
use Rattle.edge_put.proofs.put_edges.Goals as goal

-- whether the edges fit
abbrev fit : List ℕ → List Edge → Bool
fit table area = leb (length (table_edges table)) (length area)

-- an area that is too short stays
pub returns-then-not-fits_in : goal.returns-then-not-fits_in
unfolding put_said
returns-then-not-fits_in c = short (leb-false _ _ (sym c.fits_in.ensures ∙ c.if-not-fits_in.true)) refl refl

pub loop-edge-init : goal.loop-edge-init
loop-edge-init c = record {
  stands = c.start_of-c.ensures.stands;
  kept = kept_start _ _ _
      (subst (λ (b : Bool). Begun c.args.table.now b c.start_of-c.result) (sym (sym c.fits_in.ensures ∙ c.if-not-fits_in.false)) c.start_of-c.ensures);
  put = sym (put_none c.args.table.now c.args.out.now);
}

-- an edge that is found has a place in the area
room : (table : List ℕ) (area out : List Edge) (c : Cursor) (k : ℕ) (x : Edge) (d : Cursor) → Standing table c
    → Kept table (fit table area) (slot_of c) k → out ≡ put_first (records table) area k → Found table c x d → (k < length (table_edges table)) × (k < length out)
room table area out c k x d s kept put found =
    let b = kept_below table area c x d k kept found in
    let same = put_length table area c k s kept in
    let e = ap (λ (l : List Edge). length l) put in
    (b.0, omega (arith, b.1, same, e))

pub offset_bounds-out-k : goal.offset_bounds-out-k
offset_bounds-out-k c =
    let b = room _ _ _ _ _ _ _ c.loop-edge.invariant.stands c.loop-edge.invariant.kept c.loop-edge.invariant.put
    (c.next_edge-step.ensures.found _ c.in-Some.is) in
    omega (arith, b.1)

pub bounds-out-k : goal.bounds-out-k
bounds-out-k c =
    (room _ _ _ _ _ _ _ c.loop-edge.invariant.stands c.loop-edge.invariant.kept c.loop-edge.invariant.put
    (c.next_edge-step.ensures.found _ c.in-Some.is)).1

pub overflow_add-k : goal.overflow_add-k
overflow_add-k c =
    let b = room _ _ _ _ _ _ _ c.loop-edge.invariant.stands c.loop-edge.invariant.kept c.loop-edge.invariant.put
    (c.next_edge-step.ensures.found _ c.in-Some.is) in
    omega (arith, b.1)

pub loop-edge-smaller : goal.loop-edge-smaller
loop-edge-smaller c =
    let b = room _ _ _ _ _ _ _ c.loop-edge.invariant.stands c.loop-edge.invariant.kept c.loop-edge.invariant.put
    (c.next_edge-step.ensures.found _ c.in-Some.is) in
    omega (arith, b.0)

-- one edge more at the front
more : (table : List ℕ) (area out : List Edge) (c : Cursor) (k : ℕ) (x : Edge) (d : Cursor) → Kept table (fit table area) (slot_of c) k
    → out ≡ put_first (records table) area k → Found table c x d → set out k x ≡ put_first (records table) area (k + 1)
more table area out c k x d kept put found =
    ap (λ (l : List Edge). set l k x) put
    ∙ put_more table area k x (kept_below table area c x d k kept found).1 (kept_edge table (fit table area) c x d k kept found)

pub loop-edge-preserved : goal.loop-edge-preserved
loop-edge-preserved c =
    let found = c.next_edge-step.ensures.found _ c.in-Some.is in record {
      stands = c.next_edge-step.ensures.stands;
      kept = kept_more _ _ _ _ _ _ c.loop-edge.invariant.kept found;
      put = more _ _ _ _ _ _ _ c.loop-edge.invariant.kept c.loop-edge.invariant.put found;
    }

-- no edge comes any more
ended : (table : List ℕ) (area out : List Edge) (c : Cursor) (k : ℕ) → Kept table (fit table area) (slot_of c) k
    → out ≡ put_first (records table) area k → edges_below table (slot_of c) ≡ length (table_edges table) → fit table area ≡ true
    → PutAs (table_edges table) area (Ok k) out
unfolding answer_for
ended table area out c k kept put over f =
    subst (λ (l : List Edge). PutAs (table_edges table) area (Ok k) l) (sym put)
    (put_ended table area c k (Ok k) kept over (ap (λ (b : Bool). answer_for b k) (sym f)))

pub returns : goal.returns
returns c =
    ended _ _ _ c.loop-edge.c _ c.loop-edge.invariant.kept c.loop-edge.invariant.put (c.next_edge-step.ensures.ended c.in_default.is)
    (sym c.fits_in.ensures ∙ c.if-not-fits_in.false)
