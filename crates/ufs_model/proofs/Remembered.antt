-- What a collection remembers, one after the other.
use Rattle.std.proofs.Common.{◌≡◌, append_assoc, ℕ, length, take, drop, arith, List, Bool, true, false, cond, ◌||◌, [], ◌∷◌, ◌++◌, reverse, refl, sym, ap, ◌∙◌, Some, None, Option, map}
use Rattle.ufs_model.proofs.Words.{Collection, Draft, Edge, Grant, Progress, Puid, Seen, Start, State, after_seen, append-nil, collection_of, draft_pairs, drafted, drop_all, edges_from, edges_of, flat_map, graph_pairs, is_among, is_idle, is_marking, is_sweeping, joined, length-reverse, map-append, pairs_of, referred, reverse-append, same_puid, take_all, with_seen}
use Rattle.ufs_model.specs.declared.collection.Collection.TheVariants as collections
use Rattle.ufs_model.proofs.Spreading.{one_more}
use Rattle.ufs_model.specs.declared.progress.Progress.TheVariants as progress

pub one_after : (c : Collection) (seen : List Seen) (s : Seen) → after_seen c (seen ++ s ∷ []) ≡ with_seen (Some s) (after_seen c seen)
one_after c [] s = refl
one_after c (d ∷ seen) s = one_after (with_seen (Some d) c) seen s

-- what marks goes on marking
still_marking : (es : List (Puid × Puid)) (ss : List Puid) (seen : List Seen) → (is_marking (after_seen (collections.Marking es ss) seen) ≡ true)
    × (is_idle (after_seen (collections.Marking es ss) seen) ≡ false) × (is_sweeping (after_seen (collections.Marking es ss) seen) ≡ false)
still_marking es ss [] = (refl, refl, refl)
still_marking es ss (Edge i x ∷ seen) = still_marking ((i, x) ∷ es) ss seen
still_marking es ss (Start x ∷ seen) = still_marking es (x ∷ ss) seen

abbrev pub marks : Progress → Bool
marks progress.Idle = false
marks (progress.Marking seen) = true
marks progress.Sweeping = false

pub marking_is : (p : Progress) → is_marking (collection_of p) ≡ marks p
marking_is progress.Idle = refl
marking_is (progress.Marking seen) = (still_marking [] [] seen.items).0
marking_is progress.Sweeping = refl

abbrev pub idles : Progress → Bool
idles progress.Idle = true
idles (progress.Marking seen) = false
idles progress.Sweeping = false

pub idle_is : (p : Progress) → is_idle (collection_of p) ≡ idles p
idle_is progress.Idle = refl
idle_is (progress.Marking seen) = (still_marking [] [] seen.items).1
idle_is progress.Sweeping = refl

abbrev pub sweeps : Progress → Bool
sweeps progress.Idle = false
sweeps (progress.Marking seen) = false
sweeps progress.Sweeping = true

pub sweeping_is : (p : Progress) → is_sweeping (collection_of p) ≡ sweeps p
sweeping_is progress.Idle = refl
sweeping_is (progress.Marking seen) = (still_marking [] [] seen.items).2
sweeping_is progress.Sweeping = refl

edges_after : (es : List (Puid × Puid)) → after_seen (collections.Marking [] []) (reverse (edges_of es)) ≡ collections.Marking es []
edges_after [] = refl
edges_after (e ∷ es) =
    ap (after_seen (collections.Marking [] [])) (reverse-append (Edge e.0 e.1 ∷ []) (edges_of es))
    ∙ one_after (collections.Marking [] []) (reverse (edges_of es)) (Edge e.0 e.1)
    ∙ ap (with_seen (Some (Edge e.0 e.1))) (edges_after es)

each_edge : (i : Puid) (xs : List Puid) → edges_of (map (λ x. (i, x)) xs) ≡ map (λ x. Edge i x) xs
each_edge i [] = refl
each_edge i (x ∷ xs) = ap (λ l. Edge i x ∷ l) (each_edge i xs)

pub drafted_none : (g : Grant) → g.draft ≡ None → drafted g ≡ []
drafted_none g is = ap (λ (o : Option Draft). elim o as (λ (x : Option Draft). List Puid) [ None ↦ [] | Some d ↦ referred d.object ]) is

pub drafted_some : (g : Grant) (d : Draft) → g.draft ≡ Some d → drafted g ≡ referred d.object
drafted_some g d is = ap (λ (o : Option Draft). elim o as (λ (x : Option Draft). List Puid) [ None ↦ [] | Some d ↦ referred d.object ]) is

-- one more draft was seen
pub seen_one : (g : Grant) (rest : List Grant) (old new all : List Seen) → old ++ edges_of (draft_pairs (g ∷ rest)) ≡ all → new ≡ old ++ map (λ x. Edge g.id x) (drafted g) → new ++ edges_of (draft_pairs rest) ≡ all
seen_one g rest old new all h is =
    let here : edges_of (draft_pairs (g ∷ rest)) ≡ map (λ x. Edge g.id x) (drafted g) ++ edges_of (draft_pairs rest) =
    map-append (λ d. Edge d.0 d.1) (map (λ x. (g.id, x)) (drafted g)) (draft_pairs rest) ∙ ap (λ l. l ++ edges_of (draft_pairs rest)) (each_edge g.id (drafted g)) in
    ap (λ l. l ++ edges_of (draft_pairs rest)) is ∙ append_assoc old (map (λ x. Edge g.id x) (drafted g)) (edges_of (draft_pairs rest)) ∙ ap (λ l. old ++ l) (sym here) ∙ h

-- the entries of each, as the edges of all pairs
pub entries_are : {A : Type 0} (id : A → Puid) (refs : A → List Puid) (es : List A) → flat_map (λ e. map (λ x. Edge (id e) x) (refs e)) es ≡ edges_of (flat_map (λ e. map (λ x. (id e, x)) (refs e)) es)
entries_are id refs [] = refl
entries_are id refs (e ∷ es) =
    let pairs = flat_map (λ d. map (λ x. (id d, x)) (refs d)) es in
    ap (λ rest. map (λ x. Edge (id e) x) (refs e) ++ rest) (entries_are id refs es)
    ∙ ap (λ l. l ++ edges_of pairs) (sym (each_edge (id e) (refs e)))
    ∙ sym (map-append (λ d. Edge d.0 d.1) (map (λ x. (id e, x)) (refs e)) pairs)

-- the entries of the objects and of the drafts, the last first, come to the pairs
pub entries_after : (s : State) → after_seen (collections.Marking [] []) (reverse (flat_map (λ e. edges_from e.0 e.1) s.graph.objects ++ edges_of (draft_pairs s.grants))) ≡ collections.Marking (pairs_of s) []
entries_after s =
    ap (λ l. after_seen (collections.Marking [] []) (reverse (l ++ edges_of (draft_pairs s.grants)))) (entries_are (λ e. e.0) (λ e. referred e.1) s.graph.objects)
    ∙ ap (λ l. after_seen (collections.Marking [] []) (reverse l)) (sym (map-append (λ d. Edge d.0 d.1) (graph_pairs s.graph) (draft_pairs s.grants)))
    ∙ edges_after (pairs_of s)

-- ---- a collection that begins

-- what it remembers so far, and what is open and not remembered yet
pub record IsSeeing (pairs : List (Puid × Puid)) (all left : List Puid) (root : Puid) (seen : List Seen) (open_keys : List Puid) : Type 0 where
  pub found : List Puid
  pub seen_is : after_seen (collections.Marking [] []) seen ≡ collections.Marking pairs found
  pub open_is : (x : Puid) → is_among x open_keys ≡ is_among x found
  pub rest : joined left found ≡ joined all (root ∷ [])

module _ (pairs : List (Puid × Puid)) (all left : List Puid) (root : Puid) (seen : List Seen) (keys : List Puid) (x : Puid) (h : IsSeeing pairs all (x ∷ left) root seen keys) where
  pub seen_already : is_among x keys ≡ true → IsSeeing pairs all left root seen keys
  seen_already at = record {
    found = h.found;
    seen_is = h.seen_is;
    open_is = h.open_is;
    rest = sym (rw (sym (h.open_is x) ∙ at) refl) ∙ h.rest;
  }

  pub seen_now : (more : List Puid) → is_among x keys ≡ false → ((y : Puid) → is_among y more ≡ cond (same_puid x y) true (is_among y keys))
      → IsSeeing pairs all left root (seen ++ Start x ∷ []) more
  seen_now more out has = record {
    found = x ∷ h.found;
    seen_is = one_after (collections.Marking [] []) seen (Start x) ∙ ap (with_seen (Some (Start x))) h.seen_is;
    open_is = λ y. one_more y x keys more h.found (has y) (h.open_is y) ∙ by (is_among y h.found) (same_puid y x);
    rest = sym (rw (sym (h.open_is x) ∙ out) refl) ∙ h.rest;
  }
    where
      by : (a b : Bool) → (a || b) ≡ (b || a)
      by true true = refl
      by true false = refl
      by false true = refl
      by false false = refl

pub seeing_root : (pairs : List (Puid × Puid)) (all : List Puid) (root : Puid) (seen : List Seen) → after_seen (collections.Marking [] []) seen ≡ collections.Marking pairs []
    → (more : List Puid) → ((y : Puid) → is_among y more ≡ cond (same_puid root y) true false) → IsSeeing pairs all all root (seen ++ Start root ∷ []) more
seeing_root pairs all root seen is more has = record {
  found = root ∷ [];
  seen_is = one_after (collections.Marking [] []) seen (Start root) ∙ ap (with_seen (Some (Start root))) is;
  open_is = λ y. one_more y root [] more [] (has y) refl ∙ by (same_puid y root);
  rest = refl;
}
  where
    by : (b : Bool) → b ≡ (b || false)
    by true = refl
    by false = refl

-- a vector that was reversed in place
pub cut_back : (xs ys : List Seen) (n : ℕ) → ys ≡ reverse xs → n ≡ length xs → take n (ys ++ drop (length ys) xs) ≡ reverse xs
cut_back xs ys n e f =
    let long : length ys ≡ length xs = ap length e ∙ length-reverse xs in
    rw (drop_all (length ys) xs (omega (arith, long)), append-nil ys, take_all n ys (omega (arith, long, f))) e

pub seeing_first : (pairs : List (Puid × Puid)) (all left : List Puid) (root told : Puid) (seen items : List Seen) (none keys : List Puid) → after_seen (collections.Marking [] []) seen ≡ collections.Marking pairs []
    → items ≡ seen ++ Start told ∷ [] → told ≡ root → none ≡ [] → left ≡ all → ((y : Puid) → is_among y keys ≡ cond (same_puid told y) true (is_among y none)) → IsSeeing pairs all left root items keys
seeing_first pairs all left root told seen items none keys is e f g h has =
    rw (e, f, h) (seeing_root pairs all root seen is keys (λ y. rw (f, g) at (has y)))

module _ (pairs : List (Puid × Puid)) (all left : List Puid) (root x : Puid) (seen items : List Seen) (keys more : List Puid) (h : IsSeeing pairs all (x ∷ left) root seen keys) where
  pub seen_then : items ≡ seen ++ Start x ∷ [] → is_among x keys ≡ false → ((y : Puid) → is_among y more ≡ cond (same_puid x y) true (is_among y keys)) → IsSeeing pairs all left root items more
  seen_then e out has = rw e (seen_now pairs all left root seen keys x h more out has)

  pub seen_else : items ≡ seen → is_among x keys ≡ true → more ≡ keys → IsSeeing pairs all left root items more
  seen_else e at f = rw (e, f) (seen_already pairs all left root seen keys x h at)
