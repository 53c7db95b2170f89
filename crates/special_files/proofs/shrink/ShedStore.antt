-- The store after leaves were dropped from a draft.
use Rattle.std.proofs.Common.{◌≡◌, ◌≢◌, ℕ, ◌+◌, ◌*◌, ◌/◌, ◌%◌, ◌^◌, ◌<◌, ◌≤◌, inl, inr, List, length, refl, sym, ◌∙◌, ap, subst, arith}
use Rattle.special_files.proofs.Words.{All-from_get_or, All-get_or, ClaimsAndDrops, Drafting, DropsFrom, Fits, Forgets, Ghosts, HasDraft, Image, Kept, DraftView, border_claims, cases_lt, draft_in, fresh_of, is_meant_for, leaves_below, object_below, opened_as, root_spelling, slice_index, tree_in, DraftBecomes, leaf_limit, leaf_pointers, node_pointers}
use Rattle.block_tree.specs.declared.root.Root as roots
use Rattle.ufs_model.specs.declared.object.Draft as models
use Rattle.special_files.proofs.Amid.{IsAmid}
use Rattle.special_files.proofs.Levels.{told_levels}
use Rattle.special_files.proofs.PutStore.{flags_of, the_draft, becomes_now}
use Rattle.special_files.proofs.shrink.Shed.{IsShort, leaves_gone, leaves_kept, short_stands, tell_short}

-- its root has numbers of their widths
short_fits : (root : roots.Root) (nodes : List ℕ) (f y : ℕ) → Fits root → (f % leaf_pointers.count ≢ 0 → y < 2 ^ 32) → length nodes ≡ length root.nodes → ((m : ℕ) → leaf_pointers.count * m + leaf_pointers.count ≤ f → slice_index nodes m ≡ slice_index root.nodes m)
    → ((m : ℕ) → f ≤ leaf_pointers.count * m → slice_index nodes m ≡ 0) → (f % leaf_pointers.count ≢ 0 → slice_index nodes (f / leaf_pointers.count) ≡ y) → Fits (record root { nodes = nodes })
short_fits root nodes f y fits small long before past here = record {
  fill = fits.fill;
  word = fits.word;
  count = long ∙ fits.count;
  nodes = All-from_get_or (λ p. p < 2 ^ 32) nodes 0 (λ m less. elim (cases_lt (leaf_pointers.count * m) f) [
    | inr late ↦ omega (arith, past m late)
    | inl low ↦ elim (cases_lt f (leaf_pointers.count * m + leaf_pointers.count)) [
      | inr early ↦ let was = All-get_or (λ p. p < 2 ^ 32) root.nodes m 0 (omega (arith, less, long)) fits.nodes in subst (λ (p : ℕ). p < 2 ^ 32) (sym (before m early)) was
      | inl inside ↦
          let within : f % leaf_pointers.count ≢ 0 = λ z. omega (arith, z, low, inside) in
          let same : m ≡ f / leaf_pointers.count = omega (arith, low, inside) in
          subst (λ (p : ℕ). p < 2 ^ 32) (sym (ap (slice_index nodes) same ∙ here within)) (small within)
    ]
  ]);
}

module _ {D : Type 0} {g : Ghosts D} {old new : D} {before after : Kept} {was now : Drafting} {f y : ℕ} (v : DraftView g old before was) (amid : IsAmid g v.graph v.id old new after)
    (short : IsShort (g.content old) (g.content new) v.id (opened_as was v.draft) f y) (small : f % leaf_pointers.count ≢ 0 → y < 2 ^ 32) (forgets : Forgets f y was now) where
  abbrev a : Image
  a = g.content old

  abbrev b : Image
  b = g.content new

  abbrev later : models.Draft
  later = draft_in b now

  draft : HasDraft a v.id (opened_as was v.draft)
  draft = the_draft a v.ds v.id was v.draft v.opened (v.store.account.drafts v.id v.object v.at)

  root : now.root ≡ record was.root { nodes = now.root.nodes }
  root = λ i. record { kind = forgets.stays.root.kind i; fill = forgets.stays.root.fill i; word = forgets.stays.word i; size = forgets.stays.root.size i; nodes = now.root.nodes }

  fits : Fits (record was.root { nodes = now.root.nodes })
  fits = short_fits was.root now.root.nodes f y draft.tree.spelled.good.0 small forgets.count (λ k early. (forgets.before k early).1) (λ k late. (forgets.past k late).1) (λ within. (forgets.here within).1)

  long_leaves : length now.leaves ≡ leaf_limit
  long_leaves = forgets.long_leaves ∙ v.opened.leaf_flags

  long_nodes : length now.nodes ≡ node_pointers.count
  long_nodes = forgets.long_nodes ∙ v.opened.node_flags

  stands : HasDraft b v.id (opened_as now later)
  stands =
      let same : record (opened_as was v.draft) { root = now.root; draft = later } ≡ opened_as now later =
      λ i. record { shadow = sym forgets.stays.shadow i; own = sym forgets.stays.own i; root = now.root; draft = later; created = sym forgets.stays.created i } in
      subst (HasDraft b v.id) same (subst (λ (r : roots.Root). HasDraft b v.id (record (opened_as was v.draft) { root = r; draft = record { object = object_below b r; fresh = fresh_of now } })) (sym root)
      (short_stands a b v.graph v.store.account.holds v.id (opened_as was v.draft) f y draft short now.root.nodes fits (λ k early. (forgets.before k early).1) (λ k late. (forgets.past k late).1) (λ within. (forgets.here within).1) v.object v.at (fresh_of now)
      (λ k. told_levels (is_meant_for b v.id.block) (tree_in b (root_spelling (record was.root { nodes = now.root.nodes }))) now long_leaves long_nodes
      (tell_short a b v.graph v.store.account.holds v.id (opened_as was v.draft) f y draft short now.root.nodes fits (λ k early. (forgets.before k early).1) (λ k late. (forgets.past k late).1) (λ within. (forgets.here within).1)
      was now forgets (flags_of a v.ds v.id was v.draft v.opened draft)) k)))

  now_is : DraftBecomes g v.graph v.ds v.id later old new after now
  now_is = becomes_now g v.graph v.ds v.id v.object old new before after was now v.draft later v.store v.at v.opened amid stands forgets.stays.at forgets.stays.created long_leaves long_nodes (λ k. refl)

  pub shed_drops : ClaimsAndDrops v.id.block (border_claims was f) a b → DropsFrom g v.graph v.ds v.id f old new after was now
  shed_drops order = record {
    order = order;
    steps = now_is.steps;
    is_open = now_is.is_open;
    block = y;
    forgets = forgets;
    gone = λ l late. ap (λ (r : roots.Root). leaves_below b r l) root
        ∙ leaves_gone a b v.graph v.store.account.holds v.id (opened_as was v.draft) f y draft short now.root.nodes fits (λ k early. (forgets.before k early).1) (λ k late. (forgets.past k late).1) (λ within. (forgets.here within).1) l late;
    kept = λ l less. ap (λ (r : roots.Root). leaves_below b r l) root
        ∙ leaves_kept a b v.graph v.store.account.holds v.id (opened_as was v.draft) f y draft short now.root.nodes fits (λ k early. (forgets.before k early).1) (λ k late. (forgets.past k late).1) (λ within. (forgets.here within).1) l less;
  }
