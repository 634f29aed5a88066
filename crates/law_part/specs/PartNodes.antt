-- The unfoldings and the nodes of a part of a workload: those of the chosen programs, in their order, renumbered.
use Rattle.std.specs.Prelude.{Bool, true, false, cond, ◌≡◌, refl, ℕ, zero, suc, ◌+◌, ◌≤◌, ltb}
use mathlib.Core.List.{List, [], ◌∷◌, ◌++◌, map, map-append, map-map, Memᴰ}
use Rattle.std.proofs.Math.Path.{sym, ap}
use Rattle.std.proofs.Common.{ap₂, ◌∙◌, zero-add, add-zero, arith, ltb-false, le-ltb}
use Rattle.std.proofs.Math.ListN.{length, length-map}
use Rattle.spec_base.specs.Basic.{keep, count, numbers_from, numbers, has}
use Rattle.law_base.specs.BoolLaws.{or_false, or_of}
use Rattle.law_base.specs.ListLaws.{keep_append, keep_all, keep_none, length_keep, map_member}
use Rattle.spec_text.specs.declared.Line.{Line}
use Rattle.spec_graph.specs.Program.{Program, programs_of}
use Rattle.spec_graph.specs.Unfolding.{Node, unfoldings, nodes_of_program, nodes_from, nodes_of}
use Rattle.spec_report.specs.State.{statements_in, is_too_many}
use Rattle.spec_part.specs.Group.{chosen_from, part_lines}
use Rattle.spec_part.specs.Arm.{Unfolding, node_of, unfoldings_from}

-- the unfoldings of one program, which has this number
abbrev unfoldings_as : ℕ → Program → List Unfolding
unfoldings_as number p = map (λ e. record { number = number; program = p; execution = e }) (unfoldings p.body)

-- U4: the nodes are the nodes of the unfoldings
pub unfoldings_nodes : (number : ℕ) (programs : List Program) → map node_of (unfoldings_from number programs) ≡ nodes_from number programs
unfolding unfoldings_from node_of nodes_of_program nodes_from
unfoldings_nodes number [] = refl
unfoldings_nodes number (p ∷ programs) =
    map-append node_of (unfoldings_as number p) (unfoldings_from (suc number) programs)
    ∙ ap₂ {C = List Node} (λ s t. s ++ t)
    (map-map node_of (λ e. record { number = number; program = p; execution = e }) (unfoldings p.body))
    (unfoldings_nodes (suc number) programs)

-- ---- the number in the part

-- how many chosen programs stand before program k: its number in the part
unfoldable pub rank : ℕ → ℕ → ℕ
rank group k = count (has group) (numbers k)

-- one number more is counted where it passes
count_next : (p : ℕ → Bool) (a n : ℕ) → count p (numbers_from a (suc n)) ≡ count p (numbers_from a n) + cond (p (a + n)) 1 0
count_next p a zero = let e = ap {B = ℕ} (λ x. cond (p x) 1 0) (add-zero a) in omega arith
count_next p a (suc n) =
    let next = count_next p (suc a) n in
    let same : suc a + n ≡ a + suc n = omega arith in
    let e = ap {B = ℕ} (λ x. cond (p x) 1 0) same in
    omega arith

-- a chosen program is one more before the next
pub rank_chosen : (group k : ℕ) → has group k ≡ true → rank group (suc k) ≡ suc (rank group k)
unfolding rank
rank_chosen group k h =
    let next = count_next (has group) 0 k in
    let one = ap {B = ℕ} (λ x. cond (has group x) 1 0) (zero-add k) ∙ ap {B = ℕ} (λ b. cond b 1 0) h in
    omega arith

-- and another is not
pub rank_other : (group k : ℕ) → has group k ≡ false → rank group (suc k) ≡ rank group k
unfolding rank
rank_other group k h =
    let next = count_next (has group) 0 k in
    let none = ap {B = ℕ} (λ x. cond (has group x) 1 0) (zero-add k) ∙ ap {B = ℕ} (λ b. cond b 1 0) h in
    omega arith

-- ---- unfoldings

-- Req 06: an unfolding of a chosen program, as the part has it: its program renumbered
unfoldable pub in_part : ℕ → Unfolding → Unfolding
in_part group u = record { number = rank group u.number; program = u.program; execution = u.execution }

-- the unfolding is of a chosen program
abbrev chosen : ℕ → Unfolding → Bool
chosen group u = has group u.number

-- each has the program's number
numbered_so : (number : ℕ) (p : Program) (u : Unfolding) → Memᴰ u (unfoldings_as number p) → u.number ≡ number
numbered_so number p u m =
    let t = map_member (λ e. record { number = number; program = p; execution = e }) (unfoldings p.body) m in
    ap (λ (v : Unfolding). v.number) (sym t.2)

-- the chosen ones of the programs from place k on: a chosen program's unfoldings are all kept and get its number in the part, another's are left out
unfoldings_chosen : (group k : ℕ) (programs : List Program)
    → unfoldings_from (rank group k) (chosen_from group k programs) ≡ map (in_part group) (keep (chosen group) (unfoldings_from k programs))
unfolding unfoldings_from chosen_from in_part
unfoldings_chosen group k [] = refl
unfoldings_chosen group k (p ∷ programs) = go (unfoldings_chosen group (suc k) programs) (has group k) refl
  where
    own : List Unfolding
    own = unfoldings_as k p

    rest : List Unfolding
    rest = unfoldings_from (suc k) programs

    split : map (in_part group) (keep (chosen group) (own ++ rest))
        ≡ map (in_part group) (keep (chosen group) own) ++ map (in_part group) (keep (chosen group) rest)
    split =
        ap (map (in_part group)) (keep_append (chosen group) own rest)
        ∙ map-append (in_part group) (keep (chosen group) own) (keep (chosen group) rest)

    go : unfoldings_from (rank group (suc k)) (chosen_from group (suc k) programs) ≡ map (in_part group) (keep (chosen group) rest)
        → (b : Bool) → has group k ≡ b
        → unfoldings_from (rank group k) (cond b (p ∷ chosen_from group (suc k) programs) (chosen_from group (suc k) programs))
        ≡ map (in_part group) (keep (chosen group) (own ++ rest))
    go again true h =
        ap₂ {C = List Unfolding} (λ s t. s ++ t)
        (sym (map-map (in_part group) (λ e. record { number = k; program = p; execution = e }) (unfoldings p.body))
        ∙ ap (map (in_part group)) (sym (keep_all (chosen group) own (λ u m. ap (has group) (numbered_so k p u m) ∙ h))))
        (ap (λ (n : ℕ). unfoldings_from n (chosen_from group (suc k) programs)) (sym (rank_chosen group k h)) ∙ again)
        ∙ sym split
    go again false h =
        ap (λ (n : ℕ). unfoldings_from n (chosen_from group (suc k) programs)) (sym (rank_other group k h))
        ∙ again
        ∙ ap (λ (l : List Unfolding). map (in_part group) l ++ map (in_part group) (keep (chosen group) rest))
        (sym (keep_none (chosen group) own (λ u m. ap (has group) (numbered_so k p u m) ∙ h)))
        ∙ sym split

-- Req 06: the unfoldings of the chosen programs are the unfoldings of chosen programs, in order, renumbered
pub chosen_unfoldings : (group : ℕ) (programs : List Program)
    → unfoldings_from 0 (chosen_from group 0 programs) ≡ map (in_part group) (keep (λ u. has group u.number) (unfoldings_from 0 programs))
unfolding rank
chosen_unfoldings group programs = unfoldings_chosen group 0 programs

-- ---- nodes

-- Req 06: a node of a chosen program, as the part has it: its program renumbered, links and places kept
unfoldable pub node_in_part : ℕ → Node → Node
node_in_part group n = record { program = rank group n.program; links = n.links; places = n.places }

-- what is kept of images is the images of what is kept
keep_map : {A B : Type 0} (p : B → Bool) (f : A → B) (l : List A) → keep p (map f l) ≡ map f (keep (λ x. p (f x)) l)
keep_map p f [] = refl
keep_map {A} {B} p f (x ∷ l) = go (keep_map p f l) (p (f x))
  where
    go : keep p (map f l) ≡ map f (keep (λ y. p (f y)) l)
        → (b : Bool)
        → cond b (f x ∷ keep p (map f l)) (keep p (map f l)) ≡ map f (cond b (x ∷ keep (λ y. p (f y)) l) (keep (λ y. p (f y)) l))
    go again true = ap {B = List B} (λ s. f x ∷ s) again
    go again false = again

-- no more statements are in the chosen nodes than in all
statements_kept : (group : ℕ) (p : Node → Bool) (nodes : List Node) → statements_in (map (node_in_part group) (keep p nodes)) ≤ statements_in nodes
unfolding statements_in node_in_part
statements_kept group p [] = omega arith
statements_kept group p (n ∷ nodes) = go (statements_kept group p nodes) (p n)
  where
    go : statements_in (map (node_in_part group) (keep p nodes)) ≤ statements_in nodes
        → (b : Bool) → statements_in (map (node_in_part group) (cond b (n ∷ keep p nodes) (keep p nodes))) ≤ length n.places + statements_in nodes
    go again true = omega arith
    go again false = omega arith

-- at most this many of either is not too many
few_of : {a b : ℕ} → a ≤ b → (most : ℕ) → ltb most b ≡ false → ltb most a ≡ false
few_of {a} {b} less most h = let t = ltb-false most b h in le-ltb most a (omega arith)

-- where the programs of the part are the chosen programs
module _ (group : ℕ) (lines : List Line) (same : programs_of (part_lines group lines) ≡ chosen_from group 0 (programs_of lines)) where
  -- Req 06: the nodes of the part are those of the unfoldings of chosen programs, in order, renumbered
  pub part_unfoldings :
      nodes_of (part_lines group lines)
      ≡ map (λ u. node_of (in_part group u)) (keep (λ u. has group u.number) (unfoldings_from 0 (programs_of lines)))
  unfolding nodes_of
  part_unfoldings =
      ap (nodes_from 0) same
      ∙ sym (unfoldings_nodes 0 (chosen_from group 0 (programs_of lines)))
      ∙ ap (map node_of) (chosen_unfoldings group (programs_of lines))
      ∙ map-map node_of (in_part group) (keep (chosen group) (unfoldings_from 0 (programs_of lines)))

  -- Req 06: the nodes of the part are the nodes of chosen programs, in order, renumbered
  pub part_nodes :
      nodes_of (part_lines group lines) ≡ map (node_in_part group) (keep (λ n. has group n.program) (nodes_of lines))
  unfolding nodes_of node_of in_part node_in_part
  part_nodes =
      let all = unfoldings_from 0 (programs_of lines) in
      part_unfoldings
      ∙ sym (map-map (node_in_part group) node_of (keep (chosen group) all))
      ∙ ap (map (node_in_part group)) (sym (keep_map (λ (n : Node). has group n.program) node_of all))
      ∙ ap (λ (l : List Node). map (node_in_part group) (keep (λ n. has group n.program) l)) (unfoldings_nodes 0 (programs_of lines))

  -- Req 06: where the nodes are not too many, neither are those of the part
  pub part_few : is_too_many lines ≡ false → is_too_many (part_lines group lines) ≡ false
  unfolding is_too_many
  part_few few =
      let nodes = nodes_of lines in
      let kept = keep (λ n. has group n.program) nodes in
      let both = or_false (ltb 64 (length nodes)) (ltb 512 (statements_in nodes)) few in
      let fewer : length (nodes_of (part_lines group lines)) ≤ length nodes =
      let same_length = ap length part_nodes ∙ length-map kept (node_in_part group) in
      omega (arith, length_keep (λ n. has group n.program) nodes) in
      let less : statements_in (nodes_of (part_lines group lines)) ≤ statements_in nodes =
      let same_statements = ap statements_in part_nodes in
      omega (arith, statements_kept group (λ n. has group n.program) nodes) in
      or_of (few_of fewer 64 both.0) (few_of less 512 both.1)
