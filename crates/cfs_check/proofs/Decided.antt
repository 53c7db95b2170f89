-- Entries, places and kinds are equal or not, and what isn't not so is so.
use Rattle.std.proofs.Common.{◌≡◌, ◌≢◌, ◌⊎◌, inl, inr, ℕ, Bool, true, false, Option, Some, None, refl, sym, ◌∙◌, ap, subst}
use Rattle.std.proofs.lemmas.Bool.{cases_eq}
use Rattle.cfs_base.specs.declared.kind.Kind.{Kind}
use Rattle.cfs_base.specs.declared.kind.Kind.TheVariants.{Normal, Special, Index}
use Rattle.cfs_base.specs.declared.kind.Place.{Place}
use Rattle.cfs_base.specs.declared.kind.Place.TheVariants.{Root, ShadowRoot, Node, Leaf, Span}
use Rattle.block_tree.specs.declared.root.Root as roots
use Rattle.cyl_map.specs.declared.entry.MapEntry.{MapEntry}
use Rattle.cyl_map.specs.declared.state.BlockState.{BlockState}
use Rattle.cyl_map.specs.declared.state.BlockState.TheVariants.{Free, Allocated, IntendAllocate, IntendDeallocate}
use Rattle.vol_image.specs.Fault.{HasRootSlots}
use Rattle.vol_image.specs.Part.{BelongsTo, EntryPart}

kind_or : (a b : Kind) → (a ≡ b) ⊎ (a ≢ b)
kind_or Normal Normal = inl refl
kind_or Special Special = inl refl
kind_or Index Index = inl refl
kind_or a b = inr (λ is. cc)

state_or : (a b : BlockState) → (a ≡ b) ⊎ (a ≢ b)
state_or Free Free = inl refl
state_or Allocated Allocated = inl refl
state_or IntendAllocate IntendAllocate = inl refl
state_or IntendDeallocate IntendDeallocate = inl refl
state_or a b = inr (λ is. cc)

bool_or : (a b : Bool) → (a ≡ b) ⊎ (a ≢ b)
bool_or true true = inl refl
bool_or false false = inl refl
bool_or a b = inr (λ is. cc)

place_or : (a b : Place) → (a ≡ b) ⊎ (a ≢ b)
place_or Root Root = inl refl
place_or ShadowRoot ShadowRoot = inl refl
place_or (Node m) (Node n) = elim (cases_eq m n) [ inl same ↦ inl (ap Node same) | inr other ↦ inr (λ is. other (let e : m ≡ n = cc in e)) ]
place_or (Leaf m) (Leaf n) = elim (cases_eq m n) [ inl same ↦ inl (ap Leaf same) | inr other ↦ inr (λ is. other (let e : m ≡ n = cc in e)) ]
place_or (Span m) (Span n) = elim (cases_eq m n) [ inl same ↦ inl (ap Span same) | inr other ↦ inr (λ is. other (let e : m ≡ n = cc in e)) ]
place_or a b = inr (λ is. cc)

some_place_or : (a b : Option Place) → (a ≡ b) ⊎ (a ≢ b)
some_place_or None None = inl refl
some_place_or (Some p) (Some q) = elim (place_or p q) [ inl same ↦ inl (ap Some same) | inr other ↦ inr (λ is. other (let e : p ≡ q = cc in e)) ]
some_place_or a b = inr (λ is. cc)

pub entry_or : (a b : MapEntry) → (a ≡ b) ⊎ (a ≢ b)
entry_or a b = elim (state_or a.state b.state) [
  | inr other ↦ inr (λ is. other (ap (λ (e : MapEntry). e.state) is))
  | inl state ↦ elim (bool_or a.committed b.committed) [
    | inr other ↦ inr (λ is. other (ap (λ (e : MapEntry). e.committed) is))
    | inl bit ↦ elim (some_place_or a.place b.place) [
      | inr other ↦ inr (λ is. other (ap (λ (e : MapEntry). e.place) is))
      | inl place ↦ elim (cases_eq a.owner b.owner) [
        | inr other ↦ inr (λ is. other (ap (λ (e : MapEntry). e.owner) is))
        | inl owner ↦ inl (λ i. record { state = state i; committed = bit i; place = place i; owner = owner i })
      ]
    ]
  ]
]

pub some_entry_if : (a : Option MapEntry) (b : MapEntry) → ¬ (a ≢ Some b) → a ≡ Some b
some_entry_if None b stable = absurd (stable (λ is. cc))
some_entry_if (Some a) b stable = elim (entry_or a b) [ inl same ↦ ap Some same | inr other ↦ absurd (stable (λ is. other (let e : a ≡ b = cc in e))) ]

pub belongs_if : (owner : ℕ) (place : Place) (part : Option EntryPart) → ¬ ¬ BelongsTo owner place part → BelongsTo owner place part
belongs_if owner place None stable = absurd (stable (λ is. let no = is.here in cc))
belongs_if owner place (Some p) stable = elim (cases_eq p.owner owner) [
  | inr other ↦ absurd (stable (λ is. let same : p ≡ is.is = let h = is.here in cc in other (ap (λ (q : EntryPart). q.owner) same ∙ is.owner_is)))
  | inl owned ↦ elim (some_place_or p.place (Some place)) [
    | inr other ↦ absurd (stable (λ is. let same : p ≡ is.is = let h = is.here in cc in other (ap (λ (q : EntryPart). q.place) same ∙ is.place_is)))
    | inl placed ↦ record { is = p; here = refl; owner_is = owned; place_is = placed }
  ]
]

pub slots_if : (root : roots.Root) → ¬ ¬ HasRootSlots root → HasRootSlots root
slots_if root stable = elim (kind_or root.kind Index) [
  | inr other ↦ absurd (stable (λ is. other is.index))
  | inl index ↦ elim (cases_eq root.size 512) [
    | inr other ↦ absurd (stable (λ is. other is.size))
    | inl size ↦ record { index = index; size = size }
  ]
]
