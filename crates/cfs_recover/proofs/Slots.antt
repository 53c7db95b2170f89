-- To what an object refers: to what stands in slots of its leaves. Where these were checked, it was noted.
use Rattle.std.proofs.Common.{◌≡◌, ◌≢◌, inl, inr, ℕ, suc, ◌+◌, ◌-◌, ◌*◌, ◌/◌, ◌%◌, ◌<◌, true, List, [], ◌∷◌, ◌++◌, length, take, replicate, Option, Some, None, refl, sym, ◌∙◌, ap, subst, arith}
use Rattle.cfs_recover.proofs.Words.{cases_lt, get_or_past, held_is, Held, Image, IsGoodTree, IsNotedIn, IsRootBlock, Kind, Object, Puid, Root, Walk, block_at, content_is, drop-replicate, filter_map, from_be_bytes, index_to_leaves, is_among, leaf_content, leaf_in, none-some, number_at, object_with, or_cases, referred, same_puid, same_puid_is, slice_get, slot_in, some_file, some_index, take-replicate, tree_in, unwrap_or, w32, leaf_pointers}
use Rattle.cfs_base.specs.declared.kind.Kind.TheVariants as kinds
use Rattle.cfs_recover.proofs.Good.{leaf_checked}

-- an absent leaf of an index has empty slots
zero_number : (k : ℕ) → k < leaf_pointers.count → number_at (replicate 512 0) k ≡ 0
zero_number k small =
    ap (λ (bytes : List ℕ). from_be_bytes w32 (take 4 bytes)) (drop-replicate (4 * k) 512 0)
    ∙ ap (from_be_bytes w32) (take-replicate 4 (512 - 4 * k) 0 (omega arith))

no_slot : (s : ℕ) (x : Puid) → s < 64 → slot_in (replicate 512 0) s ≡ Some x → ⊥
no_slot s x small is = none-some x (sym (rw (zero_number (2 * s) (omega arith), zero_number (2 * s + 1) (omega arith)) refl) ∙ is)

-- what a list of slots refers to stands in one
in_slots : (slots : List (Option Puid)) (x : Puid) → is_among x (filter_map (λ slot. slot) slots) ≡ true → (s : ℕ) × (s < length slots) × (unwrap_or (slice_get slots s) None ≡ Some x)
in_slots [] x among = cc
in_slots (None ∷ slots) x among = let rest = in_slots slots x among in (suc rest.0, omega (arith, rest.1), rest.2)
in_slots (Some y ∷ slots) x among = elim (or_cases (same_puid x y) (is_among x (filter_map (λ slot. slot) slots)) among) [
  | inl same ↦ (0, omega arith, ap Some (sym (same_puid_is x y same)))
  | inr later ↦ let rest = in_slots slots x later in (suc rest.0, omega (arith, rest.1), rest.2)
]

-- A slot of a leaf that is held, on the disk and within the size, has this identifier.
pub record IsInSlot (image : Image) (root : Root) (leaf : ℕ → Option Held) (x : Puid) : Type 0 where
  pub index : root.kind ≡ kinds.Index
  pub number : ℕ
  pub slot : ℕ
  pub small : slot < 64
  pub within : 512 * number + 8 * slot < root.size
  pub held : Held
  pub here : leaf number ≡ Some held
  pub on_disk : held.block < length image
  pub is : slot_in (block_at image held.block) slot ≡ Some x

module _ (image : Image) (from : ℕ) (root : Root) (spelled : IsRootBlock (block_at image from) root) (whole : (n : ℕ) → n < length image → length (block_at image n) ≡ 512) where
  abbrev leaf : ℕ → Option Held
  leaf = leaf_in (tree_in image (block_at image from))

  empty : (x : Puid) (s : ℕ) → root.kind ≡ kinds.Index → s < 64 → slot_in (replicate 512 root.fill) s ≡ Some x → ⊥
  empty x s index small is = no_slot s x small (subst (λ (fill : ℕ). slot_in (replicate 512 fill) s ≡ Some x) (spelled.good.1.fill index) is)

  in_leaf : (x : Puid) (l s : ℕ) (o : Option Held) → leaf l ≡ o → root.kind ≡ kinds.Index → s < 64 → 512 * l + 8 * s < root.size → slot_in (leaf_content root.fill o) s ≡ Some x → IsInSlot image root leaf x
  in_leaf x l s None at index small within is = absurd (empty x s index small is)
  in_leaf x l s (Some h) at index small within is =
      let content : h.content ≡ block_at image h.block = ap (λ (k : Held). k.content) (held_is image _ h at).0 ∙ ap (λ (k : Held). block_at image k.block) (sym (held_is image _ h at).0) in
      elim (cases_lt h.block (length image)) [
        | inl on ↦ record {
          index = index;
          number = l;
          slot = s;
          small = small;
          within = within;
          held = h;
          here = at;
          on_disk = on;
          is = sym (ap (λ (c : List ℕ). slot_in c s) (content_is root.fill (Some h) (block_at image h.block) (ap Some content) (whole h.block on))) ∙ is;
        }
        | inr past ↦ absurd (empty x s index small (sym (ap (λ (c : List ℕ). slot_in (take 512 (c ++ replicate 512 root.fill)) s) (content ∙ get_or_past image h.block [] past)) ∙ is))
      ]

  pub refers_in : (x : Puid) → is_among x (referred (object_with root leaf)) ≡ true → IsInSlot image root leaf x
  refers_in x among = at root.kind refl
    where
      at_index : root.kind ≡ kinds.Index → IsInSlot image root leaf x
      at_index index =
          let here = some_index root leaf index in
          let gives = index_to_leaves root leaf here.0 here.1 in
          let at = in_slots here.0.slots x (sym (ap (λ (o : Object). is_among x (referred o)) here.1) ∙ among) in
          in_leaf x (at.0 / 64) (at.0 % 64) (leaf (at.0 / 64)) refl index (omega arith) (omega (arith, at.1, gives.size)) (sym (gives.slots at.0 (omega (arith, at.1, gives.size))) ∙ at.2)

      at_file : root.kind ≢ kinds.Index → IsInSlot image root leaf x
      at_file other = let here = some_file root leaf other in let no = sym (ap (λ (o : Object). is_among x (referred o)) here.1) ∙ among in cc

      at : (kind : Kind) → root.kind ≡ kind → IsInSlot image root leaf x
      at kinds.Normal is = at_file (λ (index : root.kind ≡ kinds.Index). let no = sym is ∙ index in cc)
      at kinds.Special is = at_file (λ (index : root.kind ≡ kinds.Index). let no = sym is ∙ index in cc)
      at kinds.Index is = at_index is

-- where its leaves were checked, that was noted
pub refers_noted : (image : Image) (owner from : ℕ) (root : Root) (w : Walk) → IsRootBlock (block_at image from) root → IsGoodTree image owner root w (block_at image from)
    → ((n : ℕ) → n < length image → length (block_at image n) ≡ 512) → (x : Puid) → is_among x (referred (object_with root (leaf_in (tree_in image (block_at image from))))) ≡ true → IsNotedIn w x
refers_noted image owner from root w spelled nodes whole x among =
    let at = refers_in image from root spelled whole x among in
    let good = leaf_checked image owner from root w spelled nodes at.number at.held at.here in
    good.0.read.noted at.index at.slot x (at.small, at.within, at.is)
