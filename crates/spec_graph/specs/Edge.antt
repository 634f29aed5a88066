-- Edges of the summary graph (docs/MODEL.md, "Edges"). Believed.
use Rattle.std.specs.Prelude.{Bool, true, false, cond, not, ◌&&◌, ◌||◌, ℕ, suc, eqb, length, take}
use mathlib.Core.List.{List, [], ◌∷◌, ◌++◌, flat_map}
use Rattle.std.proofs.Math.Option.{Option, none, some}
use Rattle.std.specs.Int.Bits.{bit_and}
use Rattle.std.specs.Int.Count.{ones_in, count_trailing_zeros}
use Rattle.std.proofs.Math.ListN.{get_elem?}
use Rattle.spec_base.specs.Basic.{any, meets}
use Rattle.spec_text.specs.declared.StatementKind.{StatementKind}
use Rattle.spec_text.specs.declared.StatementKind.TheVariants.{Is, Ks, Ps, Ku, Pu, Kd, Pd, Kl}
use Rattle.spec_graph.specs.Program.{Statement, Link}
use Rattle.spec_graph.specs.Unfolding.{Around, Occurrence, Node}
use Rattle.spec_graph.specs.Graph.{Flow, Graph}

-- T5, Req 03: which sets a kind has; a kl reads and no more
abbrev pub has_reads : StatementKind → Bool
has_reads Is = false
has_reads Ks = true
has_reads Ps = true
has_reads Ku = true
has_reads Pu = true
has_reads Kd = false
has_reads Pd = false
has_reads Kl = true

abbrev pub has_writes : StatementKind → Bool
has_writes Is = true
has_writes Ks = false
has_writes Ps = false
has_writes Ku = true
has_writes Pu = true
has_writes Kd = true
has_writes Pd = true
has_writes Kl = false

abbrev pub has_tests : StatementKind → Bool
has_tests Is = false
has_tests Ks = false
has_tests Ps = true
has_tests Ku = false
has_tests Pu = true
has_tests Kd = false
has_tests Pd = true
has_tests Kl = false

-- the kinds that the letters name
abbrev pub inserts : StatementKind → Bool
inserts Is = true
inserts Ks = false
inserts Ps = false
inserts Ku = false
inserts Pu = false
inserts Kd = false
inserts Pd = false
inserts Kl = false

abbrev pub deletes : StatementKind → Bool
deletes Is = false
deletes Ks = false
deletes Ps = false
deletes Ku = false
deletes Pu = false
deletes Kd = true
deletes Pd = true
deletes Kl = false

-- E2, Req 03: the kinds that a back D leaves; a kl is none of them
abbrev pub selects : StatementKind → Bool
selects Is = false
selects Ks = true
selects Ps = true
selects Ku = false
selects Pu = false
selects Kd = false
selects Pd = false
selects Kl = false

-- E3, Req 03: the kinds of a parent that shields
abbrev pub shields : StatementKind → Bool
shields Is = true
shields Ks = false
shields Ps = false
shields Ku = true
shields Pu = false
shields Kd = true
shields Pd = false
shields Kl = true

-- E0: W, R and T of a statement; a set that the kind lacks meets nothing
unfoldable pub W : Statement → ℕ
W s = cond (has_writes s.kind) s.writes 0

unfoldable pub R : Statement → ℕ
R s = cond (has_reads s.kind) s.reads 0

unfoldable pub T : Statement → ℕ
T s = cond (has_tests s.kind) s.tests 0

-- EA to EE
pub data Letter : Type 0 where
  A B C D E : Letter

unfoldable pub holds : Letter → Statement → Statement → Bool
holds A p q = has_writes p.kind && has_writes q.kind && not (deletes p.kind) && not (inserts q.kind) && meets (W p) (W q)
holds B p q = has_writes p.kind && not (deletes p.kind) && meets (W p) (R q)
holds C p q = has_tests q.kind && (inserts p.kind || deletes p.kind || meets (W p) (T q))
holds D p q = has_writes q.kind && not (inserts q.kind) && meets (R p) (W q)
holds E p q = has_tests p.kind && (inserts q.kind || deletes q.kind || meets (W q) (T p))

-- E0: both statements are over one relation
unfoldable pub same_relation : Statement → Statement → Bool
same_relation p q = eqb p.relation q.relation

-- a place of a node: the node's number, the node, the place's number and what stands there
pub record Place : Type 0 where
  pub number : ℕ
  pub node : Node
  pub place : ℕ
  pub occurrence : Occurrence

abbrev pub at : Place → Statement
at s = s.occurrence.statement

-- E4: the first path goes on to the second: the same turn of each loop around the first, the same arm of each branch
unfoldable pub leads : List Around → List Around → Bool
leads [] path = true
leads (a ∷ rest) [] = false
leads (a ∷ rest) (b ∷ path) = eqb a.item b.item && eqb a.turn b.turn && leads rest path

-- E4: the link binds this parent occurrence to this child occurrence
unfoldable pub binds : Link → Occurrence → Occurrence → Bool
binds l child parent =
    eqb l.child child.statement.id && eqb l.parent parent.statement.id && leads parent.path child.path

-- E3: by a link of this key one of these occurrences is the place's parent, of a kind that shields
unfoldable pub has_parent : ℕ → Place → List Occurrence → Bool
has_parent key s among =
    any
    (λ l. eqb l.key key && any (λ parent. binds l s.occurrence parent && shields parent.statement.kind) among)
    s.node.links

-- E3, Req 02: in the near program, which the edge leaves, the parent stands before the child
unfoldable pub guarded_near : ℕ → Place → Bool
guarded_near key s = has_parent key s (take s.place s.node.places)

-- E3, Req 02: in the far program, which the edge enters, the parent stands anywhere; the child may be its own
unfoldable pub guarded_far : ℕ → Place → Bool
guarded_far key s = has_parent key s s.node.places

-- E3: some key shields the pair
unfoldable pub shielded : Place → Place → Bool
shielded s t = any (λ l. guarded_near l.key s && guarded_far l.key t) s.node.links

-- E1
unfoldable pub forward : Place → Place → Bool
forward s t =
    same_relation (at s) (at t)
    && (holds A (at s) (at t) || holds B (at s) (at t) || holds C (at s) (at t) || holds D (at s) (at t) || holds E (at s) (at t))

-- E2
unfoldable pub back : Place → Place → Bool
back s t =
    same_relation (at s) (at t)
    && (holds E (at s) (at t) || selects (at s).kind && holds D (at s) (at t) && not (shielded s t))

-- an edge with this flow stands between the two places
abbrev pub stands : Flow → Place → Place → Bool
stands Flow.forward s t = forward s t
stands Flow.back s t = back s t

-- N2: the places of a node, of all nodes
unfoldable pub places_from : ℕ → Node → ℕ → List Occurrence → List Place
places_from m n i [] = []
places_from m n i (o ∷ rest) = record { number = m; node = n; place = i; occurrence = o } ∷ places_from m n (suc i) rest

unfoldable pub places_of : ℕ → List Node → List Place
places_of m [] = []
places_of m (n ∷ nodes) = places_from m n 0 n.places ++ places_of (suc m) nodes

-- E6: the letter that a record names: the first that holds; for a back edge E, else D
unfoldable pub letter_of : Flow → Statement → Statement → Letter
letter_of Flow.forward p q = cond (holds A p q) A (cond (holds B p q) B (cond (holds C p q) C (cond (holds D p q) D E)))
letter_of Flow.back p q = cond (holds E p q) E D

-- E6: what the letter's two sets share
unfoldable pub shared : Letter → Statement → Statement → ℕ
shared A p q = bit_and (W p) (W q)
shared B p q = bit_and (W p) (R q)
shared C p q = bit_and (W p) (T q)
shared D p q = bit_and (R p) (W q)
shared E p q = bit_and (T p) (W q)

-- E6: a record: the two places, the flow, the letter, how many attributes its sets share and the lowest of them, or 64
pub record Edge : Type 0 where
  pub node : ℕ
  pub leaves : ℕ
  pub into : ℕ
  pub enters : ℕ
  pub flow : Flow
  pub letter : Letter
  pub sharing : ℕ
  pub lowest : ℕ

unfoldable pub edge_of : Flow → Place → Place → Edge
edge_of flow s t =
    let letter = letter_of flow (at s) (at t) in
    let meeting = shared letter (at s) (at t) in
    record {
      node = s.number;
      leaves = s.place;
      into = t.number;
      enters = t.place;
      flow = flow;
      letter = letter;
      sharing = ones_in 64 meeting;
      lowest = count_trailing_zeros 64 meeting;
    }

-- E5: between two places the forward edge first
unfoldable pub edges_between : Place → Place → List Edge
edges_between s t =
    cond (forward s t) (edge_of Flow.forward s t ∷ []) [] ++ cond (back s t) (edge_of Flow.back s t ∷ []) []

-- E5: all edges, ordered by node and place left, then node and place entered
unfoldable pub edges_of : List Node → List Edge
edges_of nodes = flat_map (λ s. flat_map (λ t. edges_between s t) (places_of 0 nodes)) (places_of 0 nodes)

-- W4, Req 03: the kinds that make a pair dangerous where the first edge leaves them; a kl is none of them
abbrev pub loosens : StatementKind → Bool
loosens Is = false
loosens Ks = true
loosens Ps = true
loosens Ku = false
loosens Pu = true
loosens Kd = false
loosens Pd = true
loosens Kl = false

-- the place with this number of the node with this number
unfoldable pub place_at : List Node → ℕ → ℕ → Option Place
place_at nodes m i =
    elim (get_elem? nodes m) [
      | none ↦ none
      | some n ↦
          elim (get_elem? n.places i) [ none ↦ none | some o ↦ some (record { number = m; node = n; place = i; occurrence = o }) ]
    ]

abbrev pub both_pass : (Place → Place → Bool) → Option Place → Option Place → Bool
both_pass test none t = false
both_pass test (some s) none = false
both_pass test (some s) (some t) = test s t

abbrev pub loosens_at : Option Place → Bool
loosens_at none = false
loosens_at (some s) = loosens (at s).kind

-- the summary graph of the nodes
unfoldable pub graph_of : List Node → Graph
graph_of nodes =
    record {
      size = length nodes;
      places = λ m. elim (get_elem? nodes m) [ none ↦ 0 | some n ↦ length n.places ];
      edge = λ m i n j flow. both_pass (stands flow) (place_at nodes m i) (place_at nodes n j);
      loose = λ m i. loosens_at (place_at nodes m i);
    }
