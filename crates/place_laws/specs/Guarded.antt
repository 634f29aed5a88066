-- E3: a key guards a place exactly if a link of its child by that key has its parent among what is seen at the place (near), or among the
-- shielding statements of its program (far).
use Rattle.std.specs.Prelude.{◌≡◌, refl, Bool, true, false, cond, ◌&&◌, ◌||◌, ℕ, ◌^◌, ◌<◌, eqb, take}
use Rattle.std.proofs.Common.{sym, ap, ap₂, ◌∙◌, lt-ltb, eqb-true}
use mathlib.Core.List.{List, [], ◌∷◌, Memᴰ}
use Rattle.spec_base.specs.Basic.{any, has}
use Rattle.law_base.specs.BoolLaws.{and_right, and_true, and_of, same_test}
use Rattle.law_base.specs.ListLaws.{any_same, any_true, any_of}
use Rattle.law_base.specs.SetLaws.{has_empty, has_bit_or, has_bit}
use Rattle.spec_graph.specs.Program.{Statement, Link}
use Rattle.spec_graph.specs.Unfolding.{Occurrence, Node}
use Rattle.spec_graph.specs.Edge.{shields, leads, binds, has_parent, guarded_near, guarded_far, Place, at}
use Rattle.unfold_laws.specs.Seen.{mark_of, seen_at}

-- the statements of occurrences have ids below 32
abbrev pub IdsSmall : List Occurrence → Type 0
IdsSmall l = (o : Occurrence) → Memᴰ o l → o.statement.id < 32

-- the mark of a statement has its id where its kind shields
mark_has : (s : Statement) (k : ℕ) → s.id < 32 → has (mark_of s) k ≡ eqb k s.id && shields s.kind
unfolding mark_of
mark_has s k h = rw (lt-ltb s.id 32 h) (go (shields s.kind))
  where
    go : (b : Bool) → has (cond (b && true) (2 ^ s.id) 0) k ≡ eqb k s.id && b
    go true = has_bit s.id k ∙ both (eqb k s.id)
      where
        both : (b : Bool) → b ≡ b && true
        both true = refl
        both false = refl
    go false = has_empty k ∙ sym (and_right (eqb k s.id) refl)

-- one occurrence's part in what is seen
part_has : (p : Occurrence) (o : Occurrence) (k : ℕ) → p.statement.id < 32
    → has (cond (leads p.path o.path) (mark_of p.statement) 0) k
    ≡ (eqb k p.statement.id && leads p.path o.path) && shields p.statement.kind
part_has p o k h = go (leads p.path o.path)
  where
    turn : (a b : Bool) → a && b ≡ (a && true) && b
    turn true b = refl
    turn false b = refl

    none : (a b : Bool) → false ≡ (a && false) && b
    none true b = refl
    none false b = refl

    go : (b : Bool) → has (cond b (mark_of p.statement) 0) k ≡ (eqb k p.statement.id && b) && shields p.statement.kind
    go true = mark_has p.statement k h ∙ turn (eqb k p.statement.id) (shields p.statement.kind)
    go false = has_empty k ∙ none (eqb k p.statement.id) (shields p.statement.kind)

-- what is seen at a place has the ids of the shielding occurrences before it that lead to it
pub seen_has : (before : List Occurrence) (o : Occurrence) (k : ℕ) → IdsSmall before
    → has (seen_at before o) k
    ≡ any (λ p. (eqb k p.statement.id && leads p.path o.path) && shields p.statement.kind) before
unfolding seen_at
seen_has [] o k small = has_empty k
seen_has (p ∷ before) o k small =
    has_bit_or (cond (leads p.path o.path) (mark_of p.statement) 0) (seen_at before o) k
    ∙ ap₂ ◌||◌ (part_has p o k (small p (Memᴰ.head refl))) (seen_has before o k (λ q m. small q (Memᴰ.tail m)))

-- a link's parent before the place
parent_seen : (l : Link) (before : List Occurrence) (o : Occurrence) → IdsSmall before
    → any (λ parent. binds l o parent && shields parent.statement.kind) before
    ≡ eqb l.child o.statement.id && has (seen_at before o) l.parent
unfolding binds
parent_seen l before o small = rw (seen_has before o l.parent small) (go (eqb l.child o.statement.id) before)
  where
    inner : Occurrence → Bool
    inner p = (eqb l.parent p.statement.id && leads p.path o.path) && shields p.statement.kind

    go : (b : Bool) (before : List Occurrence)
        → any (λ p. (b && eqb l.parent p.statement.id && leads p.path o.path) && shields p.statement.kind) before
        ≡ b && any inner before
    go true before = refl
    go false [] = refl
    go false (p ∷ before) = go false before

-- E3, near: guarded, by the word of what is seen
pub near_seen : (f : ℕ) (s : Place) → IdsSmall (take s.place s.node.places)
    → guarded_near f s
    ≡ any
    (λ l. eqb l.key f && (eqb l.child (at s).id && has (seen_at (take s.place s.node.places) s.occurrence) l.parent))
    s.node.links
unfolding guarded_near has_parent
near_seen f s small =
    any_same _ _ s.node.links
    (λ l m. ap (λ (b : Bool). eqb l.key f && b) (parent_seen l (take s.place s.node.places) s.occurrence small))

-- ---- E3, far: the parent stands anywhere in the node, so the word of the program's shielding statements decides

-- the word has the ids of the node's statements that shield, and each child occurrence has its parent in the node (T11)
pub record Marked (n : Node) (marks : ℕ) : Type 0 where
  pub kinds : (o : Occurrence) → Memᴰ o n.places → shields o.statement.kind ≡ has marks o.statement.id
  pub bound : (l : Link) → Memᴰ l n.links → (child : Occurrence) → Memᴰ child n.places → l.child ≡ child.statement.id
      → (parent : Occurrence) × Memᴰ parent n.places × (binds l child parent ≡ true)

-- what a link that binds names
binds_names : (l : Link) (child parent : Occurrence) → binds l child parent ≡ true
    → (eqb l.child child.statement.id ≡ true) × (l.parent ≡ parent.statement.id)
unfolding binds
binds_names l child parent h =
    let two = and_true (eqb l.child child.statement.id && eqb l.parent parent.statement.id) (leads parent.path child.path) h in
    let one = and_true (eqb l.child child.statement.id) (eqb l.parent parent.statement.id) two.0 in
    (one.0, eqb-true l.parent parent.statement.id one.1)

-- a link's parent anywhere in the node: where the link is the child's its parent is there, and shields where it is marked
parent_marked : (n : Node) (marks : ℕ) → Marked n marks → (l : Link) → Memᴰ l n.links → (o : Occurrence) → Memᴰ o n.places
    → any (λ parent. binds l o parent && shields parent.statement.kind) n.places ≡ eqb l.child o.statement.id && has marks l.parent
parent_marked n marks marked l in_links o in_places = same_test _ _ found there
  where
    found : any (λ parent. binds l o parent && shields parent.statement.kind) n.places ≡ true
        → eqb l.child o.statement.id && has marks l.parent ≡ true
    found h =
        let p = any_true (λ parent. binds l o parent && shields parent.statement.kind) n.places h in
        let both = and_true (binds l o p.0) (shields p.0.statement.kind) p.2 in
        let names = binds_names l o p.0 both.0 in
        and_of names.0 (ap (has marks) names.1 ∙ sym (marked.kinds p.0 p.1) ∙ both.1)

    there : eqb l.child o.statement.id && has marks l.parent ≡ true
        → any (λ parent. binds l o parent && shields parent.statement.kind) n.places ≡ true
    there h =
        let both = and_true (eqb l.child o.statement.id) (has marks l.parent) h in
        let p = marked.bound l in_links o in_places (eqb-true l.child o.statement.id both.0) in
        let names = binds_names l o p.0 p.2 in
        any_of _ p.1 (and_of p.2 (marked.kinds p.0 p.1 ∙ ap (has marks) (sym names.1) ∙ both.1))

-- E3, far: guarded, by the word of marks
pub far_marked : (f : ℕ) (s : Place) (marks : ℕ) → Memᴰ s.occurrence s.node.places → Marked s.node marks
    → guarded_far f s ≡ any (λ l. eqb l.key f && (eqb l.child (at s).id && has marks l.parent)) s.node.links
unfolding guarded_far has_parent
far_marked f s marks m marked =
    any_same _ _ s.node.links
    (λ l h. ap (λ (b : Bool). eqb l.key f && b) (parent_marked s.node marks marked l h s.occurrence m))
