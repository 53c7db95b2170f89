-- After the root has its new content: the blocks' states, the shadow root's entry and the bit may be written, in any order.
use Rattle.std.proofs.Common.{◌≡◌, ◌≢◌, inl, inr, ℕ, ◌<◌, ◌≤◌, List, [], length, set, true, false, cond, Some, refl, sym, ◌∙◌, ap, subst, arith}
use Rattle.vol_image.proofs.Words.{BelongsTo, Graph, Held, Holds, Image, IsEntry, IsHeldBy, IsTree, MapEntry, MaySettle, Object, OwnsItself, Puid, ReadsAs, Root, Settles, StandsForNone, Tree, block_at, block_at-with_entry, entry_in, entry_in-with_entry_other, entry_in-with_entry_same, filter, get_or-set_same, is_committed, is_fixed, object_at, part_at, part_of, range_with_len, same_or_not, shadows, sight, source, stands_for, tree_in, with_entry, with_object}
use Rattle.vol_image.proofs.Alone.{one_at_most}
use Rattle.vol_image.proofs.Views.{same_tree}
use Rattle.vol_image.proofs.Parts.{source_is, root_placed, taken_apart, tree_placed}
use Rattle.vol_image.proofs.Steps.{not_map, block_mixed, entry_mixed, frames_begin, frames_entry, frames_mix}
use Rattle.vol_image.proofs.Changes.{others, hold_others, object_put}

-- ---- one shadow root at most

few_shadows : (b : Image) (r s : ℕ) → ((n : ℕ) → stands_for r (entry_in b n) ≡ true → n ≡ s) → length (shadows b r) ≤ 1
unfolding shadows
few_shadows b r s only = elim (is_committed (part_at b r)) as (λ t. length (cond t (filter (λ n. stands_for r (entry_in b n)) (range_with_len 0 (length b))) []) ≤ 1) [
  | true ↦ one_at_most (λ n. stands_for r (entry_in b n)) s only 0 (length b)
  | false ↦ omega arith
]

-- ---- what settles reads the same

pub settled_holds : (c : Image) (g : Graph) (id : Puid) (o : Object) (s : ℕ) (b : Image) → Holds c g → object_at g id ≡ Some o → block_at c (source c id.block) ≡ block_at c id.block → Settles c g id s b → Holds b (with_object g id o)
unfolding sight
settled_holds c g id o s b holds at copied settles =
    let seen : ReadsAs (length c) id (sight c id.block) o = holds.objects id o at in
    let from : block_at b (source b id.block) ≡ block_at c id.block = elim (source_is b id.block) [
      | inl root ↦ ap (block_at b) root ∙ settles.root
      | inr shadow ↦ ap (block_at b) (settles.alone (source b id.block) shadow) ∙ settles.shadow
    ] in
    let tree : tree_in b (block_at b (source b id.block)) ≡ tree_in c (block_at c (source c id.block)) =
    ap (tree_in b) from ∙ same_tree c b (block_at c id.block) settles.inner ∙ ap (tree_in c) (sym copied) in
    object_put c b g id o holds settles.frames (record {
      part = settles.part;
      root = seen.root;
      spelled = rw settles.root seen.spelled;
      word = seen.word;
      one_shadow = few_shadows b id.block s settles.alone;
      source = seen.source;
      same_kind = seen.same_kind;
      same_word = seen.same_word;
      tree = subst (λ (t : Tree). IsTree (length c) id.block t seen.source o) (sym tree) seen.tree;
    })

-- ---- the steps

pub settles_begins : (c : Image) (g : Graph) (id : Puid) (o : Object) (s : ℕ) → Holds c g → object_at g id ≡ Some o → block_at c s ≡ block_at c id.block → ((n : ℕ) → stands_for id.block (entry_in c n) ≡ true → n ≡ s) → Settles c g id s c
unfolding sight
settles_begins c g id o s holds at copied alone = record {
  frames = frames_begin c (others g id) (hold_others c g id holds);
  part = (holds.objects id o at).part;
  root = refl;
  shadow = copied;
  alone = alone;
  inner = λ path h v. record { part = refl; content = refl };
}

-- an entry: the root's, the shadow root's, or of another block that no other object holds
settles_entry : (c : Image) (g : Graph) (id : Puid) (o : Object) (s : ℕ) (b : Image) (n : ℕ) (e old : MapEntry) → Holds c g → object_at g id ≡ Some o → Settles c g id s b → is_fixed n ≡ false → is_fixed s ≡ false → is_fixed id.block ≡ false
    → ((path : List ℕ) (h : Held) → (tree_in c (block_at c id.block)).below path ≡ Some h → is_fixed h.block ≡ false)
    → (IsHeldBy c (others g id) n → part_of (Some e) ≡ part_of (Some old)) → entry_in b n ≡ Some old → IsEntry e → OwnsItself n e
    → (n ≡ id.block → BelongsTo id.block Root (part_of (Some e)))
    → ((path : List ℕ) (h : Held) → (tree_in c (block_at c id.block)).below path ≡ Some h → h.block ≡ n → part_of (Some e) ≡ part_of (Some old))
    → (stands_for id.block (Some e) ≡ true → n ≡ s)
    → StandsForNone c (others g id) e → StandsForNone c (others g id) old
    → Settles c g id s (with_entry b n e)
settles_entry c g id o s b n e old holds at settles apart apart_s apart_r apart_in kept was is itself root_part inner_part shadow new_none old_none =
    let here : entry_in (with_entry b n e) n ≡ Some e = entry_in-with_entry_same b n e old was is in
    let other : (m : ℕ) → m ≢ n → entry_in (with_entry b n e) m ≡ entry_in b m = λ m differs. entry_in-with_entry_other b n e old m was differs in
    let content : (m : ℕ) → is_fixed m ≡ false → block_at (with_entry b n e) m ≡ block_at b m = λ m loose. block_at-with_entry b n e m (λ same. not_map m loose (omega (arith, same))) in
    record {
      frames = frames_entry c (others g id) b n e old (hold_others c g id holds) settles.frames apart kept was is itself (λ x p found bit. new_none x p found bit ∙ sym (old_none x p found bit));
      part = elim (same_or_not id.block n) [
        | inl same ↦ subst (λ p. BelongsTo id.block Root p) (sym (ap (λ (m : ℕ). part_at (with_entry b n e) m) same ∙ ap part_of here)) (root_part (sym same))
        | inr differs ↦ subst (λ p. BelongsTo id.block Root p) (sym (ap part_of (other id.block differs))) settles.part
      ];
      root = content id.block apart_r ∙ settles.root;
      shadow = content s apart_s ∙ settles.shadow;
      alone = λ m stands. elim (same_or_not m n) [
        | inl same ↦ same ∙ shadow (ap (stands_for id.block) (sym here ∙ ap (entry_in (with_entry b n e)) (sym same)) ∙ stands)
        | inr differs ↦ settles.alone m (ap (stands_for id.block) (sym (other m differs)) ∙ stands)
      ];
      inner = λ path h v. record {
        part = elim (same_or_not h.block n) [
          | inl same ↦ ap (λ (m : ℕ). part_at (with_entry b n e) m) same ∙ ap part_of here ∙ inner_part path h v same ∙ ap part_of (sym was) ∙ ap (part_at b) (sym same)
          | inr differs ↦ ap part_of (other h.block differs)
        ] ∙ (settles.inner path h v).part;
        content = content h.block (apart_in path h v) ∙ (settles.inner path h v).content;
      };
    }

-- one entry more
pub settles_on : (c : Image) (g : Graph) (id : Puid) (o : Object) (s : ℕ) (b : Image) (n : ℕ) (old e : MapEntry) → Holds c g → object_at g id ≡ Some o → block_at c (source c id.block) ≡ block_at c id.block → is_fixed s ≡ false
    → Settles c g id s b → entry_in b n ≡ Some old → MaySettle c g id s n old e → Settles c g id s (with_entry b n e)
unfolding sight
settles_on c g id o s b n old e holds at copied apart_s settles was may =
    let seen : ReadsAs (length c) id (sight c id.block) o = holds.objects id o at in
    let tree : IsTree (length c) id.block (tree_in c (block_at c id.block)) seen.source o = subst (λ (x : List ℕ). IsTree (length c) id.block (tree_in c x) seen.source o) copied seen.tree in
    settles_entry c g id o s b n e old holds at settles may.apart apart_s
    (taken_apart c g holds id.block id.block (root_placed c (length c) id o seen).taken)
    (λ path h v. taken_apart c g holds h.block id.block (tree_placed c (length c) id.block (block_at c id.block) seen.source o tree path h v).taken)
    may.others was may.entry may.itself may.root may.inner may.shadow may.of_others may.of_others_before

-- ---- a block of one such image, written into another

settles_mix : (c : Image) (g : Graph) (id : Puid) (s : ℕ) (b k : Image) (n : ℕ) → Settles c g id s b → Settles c g id s k → Settles c g id s (set b n (block_at k n))
settles_mix c g id s b k n one two = record {
  frames = frames_mix c (others g id) b k n one.frames two.frames;
  part = elim (entry_mixed b k n id.block) [ inl is ↦ subst (λ p. BelongsTo id.block Root p) (sym (ap part_of is)) one.part | inr is ↦ subst (λ p. BelongsTo id.block Root p) (sym (ap part_of is)) two.part ];
  root = elim (block_mixed b k n id.block) [ inl is ↦ is ∙ one.root | inr is ↦ is ∙ two.root ];
  shadow = elim (block_mixed b k n s) [ inl is ↦ is ∙ one.shadow | inr is ↦ is ∙ two.shadow ];
  alone = λ m stands. elim (entry_mixed b k n m) [ inl is ↦ one.alone m (ap (stands_for id.block) (sym is) ∙ stands) | inr is ↦ two.alone m (ap (stands_for id.block) (sym is) ∙ stands) ];
  inner = λ path h v. record {
    part = elim (entry_mixed b k n h.block) [ inl is ↦ ap part_of is ∙ (one.inner path h v).part | inr is ↦ ap part_of is ∙ (two.inner path h v).part ];
    content = elim (block_mixed b k n h.block) [ inl is ↦ is ∙ (one.inner path h v).content | inr is ↦ is ∙ (two.inner path h v).content ];
  };
}

-- A write into any such image, of a block with which the content settles.
pub settles_write : (c : Image) (g : Graph) (id : Puid) (s : ℕ) (b content : Image) (n : ℕ) (block : List ℕ) → n < length content → Settles c g id s b → Settles c g id s (set content n block) → Settles c g id s (set b n block)
settles_write c g id s b content n block below one two = subst (λ (x : List ℕ). Settles c g id s (set b n x)) (get_or-set_same content n block [] below) (settles_mix c g id s b (set content n block) n one two)
