-- A draft that takes all that it claims keeps each block of it, as does one that a resize changed since it was begun.
use Rattle.std.proofs.Common.{◌≡◌, ◌≢◌, inl, inr, ℕ, zero, suc, ◌+◌, ◌/◌, ◌%◌, ◌≤◌, ◌==◌, ◌&&◌, Bool, true, false, cond, not, List, [], ◌∷◌, length, length-append, Option, None, refl, sym, ◌∙◌, ap, subst, arith}
use Rattle.file_ops.proofs.Words.{AreClaimed, ClaimsAndDrops, Draft, DraftBecomes, Drafting, Drafts, File, Ghosts, Graph, Image, Kept, MapEntry, Opened, and_parts, changed_draft, fresh_after, has_number, is_meant, is_placed, leaves_in, missing, nat_lt, object_at, of_draft, opened_as, option_to_list, sum, sum_by, sum_by-cons, sum_is, with_numbers, within, written_anew, SetSize, Object, Puid, Some, owner_of, shadow_need}
use Rattle.file_ops.proofs.Views.{Begun, DraftChanged, view_begun, standing}
use Rattle.file_ops.specs.Changes.{MayChangeFile}
use Rattle.std.specs.Prelude.{map, filter, nat_le}
use Rattle.std.specs.List.{range_with_len}
use Rattle.std.proofs.lemmas.List.{length-map}
use Rattle.std.proofs.lemmas.Bool.{both_ways, cases_eq, eqb-false, eqb-true, false_from_ne_true, lt-ltb}
use Rattle.cfs_base.specs.declared.kind.Place.TheVariants.{Leaf, Node}
use Rattle.claims.specs.Claims.{SameEntries}
use Rattle.cyl_alloc.proofs.Ranges.{count_in, in-suc, none_in, one, same_count}
use Rattle.cyl_alloc.specs.Space.{intended}
use Rattle.cyl_map.specs.Volume.{entry_in, is_free_entry, is_free_in}
use Rattle.special_files.proofs.Meant.{free_is}
use Rattle.special_files.specs.Begins.{drafts_begun, equal_to}
use Rattle.special_files.specs.Order.{claims_anew}
use Rattle.special_files.specs.Shed.{Resized}
use Rattle.special_files.specs.View.{DraftView}
use Rattle.ufs_model.proofs.Rising.{filter-rises, in_filter, in_withs, same_numbers, to_filter, to_withs, with_numbers-rise}
use Rattle.ufs_model.specs.Limits.{fan_out}
use Rattle.ufs_model.specs.Numbers.{lacking, merged, numbers_rise, parents, shared}
use Rattle.ufs_model.specs.Object.{cut_leaf, resize_anew}
use Rattle.vol_image.proofs.Parts.{in_image}
use Rattle.vol_owners.proofs.Entries.{free_unplaced}
use Rattle.vol_owners.proofs.Owned.{count_drafts, own_blocks}
use Rattle.vol_owners.proofs.Sums.{sum_both, sum_each}
use Rattle.vol_owners.specs.Account.{Accounts, HasDraftIf, is_meant_for}
use Rattle.vol_owners.specs.Change.{IsOpenTo}
use Rattle.vol_owners.specs.Owner.{is_owned_by}
use Rattle.cfs_base.specs.declared.kind.FileKind.TheVariants as kinds
use Rattle.ufs_model.specs.declared.object.Object.TheVariants as objects

only : (n x : ℕ) → has_number x (n ∷ []) ≡ true → (n == x) ≡ true
only n x is = grind arith

-- ---- what a draft takes

-- what a draft changes is Free or meant for its object
free_or_meant : (r : ℕ) (entry : Option MapEntry) → IsOpenTo (λ e. of_draft r e) entry → one (is_free_entry entry) + one (is_owned_by is_meant r entry) ≡ 1
free_or_meant r entry (inl free) = rw (free, free_unplaced is_meant refl entry free) refl
free_or_meant r entry (inr of) =
    let two = and_parts (is_placed is_meant entry) _ of.1 in
    rw (false_from_ne_true _ (λ free. both_ways _ (free_unplaced is_meant refl entry free) two.0), two.0, only r (owner_of entry) two.1) refl

meant_blocks : (image : Image) (graph : Graph) (ds : Drafts) (id : Puid) (o : Object) (d : Opened) → Accounts image graph ds → object_at graph id ≡ Some o → ds id ≡ Some d → count_in (is_meant_for image id.block) 0 (length image) ≡ own_blocks d
meant_blocks image graph ds id o d has at alone = count_drafts image graph has.holds id (Some d) (subst (HasDraftIf image id) alone (has.drafts id o at))

-- a claim takes one Free block at most
one_most : (b : Bool) → one b ≤ 1
one_most b = grind arith

one_less : (p q : ℕ → Bool) (x from n : ℕ) → ((m : ℕ) → m ≢ x → p m ≡ q m) → count_in p from n ≤ count_in q from n + 1
one_less p q x from zero same = omega arith
one_less p q x from (suc n) same = elim (cases_eq from x) [
  | inl is ↦ omega (arith, in-suc p from n, in-suc q from n, one_most (p from), same_count p q (from + 1) n (λ m low high. same m (λ at. omega (arith, at, is, low))))
  | inr other ↦ omega (arith, in-suc p from n, in-suc q from n, ap one (same from other), one_less p q x (from + 1) n same)
]

claims_take : (es : List MapEntry) (a c : Image) (n : ℕ) → AreClaimed es a c → count_in (is_free_in a) 0 n ≤ count_in (is_free_in c) 0 n + length es
claims_take [] a c n same = omega (arith, same_count (is_free_in a) (is_free_in c) 0 n (λ m low high. ap is_free_entry (sym (same m))))
claims_take (e ∷ es) a c n is = omega (arith, one_less (is_free_in a) (is_free_in is.0) is.1.block 0 n (λ m other. ap is_free_entry (sym (is.1.others m other))), claims_take es is.0 c n is.2)

claims_same : (es : List MapEntry) (a b c : Image) → AreClaimed es a b → SameEntries b c → AreClaimed es a c
claims_same [] a b c is same = λ m. same m ∙ is m
claims_same (e ∷ es) a b c is same = (is.0, is.1, claims_same es is.0 b c is.2 same)

more_free : (x y : Bool) → (y ≡ true → x ≡ true) → one x ≡ one y + one (x && not y)
more_free x y more = grind arith

module _ {D : Type 0} {g : Ghosts D} {d1 d2 : D} {k1 k2 : Kept} {was now : Drafting} (v : DraftView g d1 k1 was) {d : Draft} (b : DraftBecomes g v.graph v.ds v.id d d1 d2 k2 now) where
  spent : sum k1.free + own_blocks (opened_as was v.draft) ≡ sum k2.free + own_blocks (opened_as now d)
  spent =
      let a = g.content d1 in
      let c = g.content d2 in
      let run = range_with_len 0 (length a) in
      let free = λ (i : Image) (n : ℕ). one (is_free_in i n) in
      let meant = λ (i : Image) (n : ℕ). one (is_meant_for i v.id.block n) in
      omega (
        arith,
        sum_is a k1 v.store.counts,
        sum_is c k2 b.steps.store.counts,
        meant_blocks a v.graph v.ds v.id v.object _ v.store.account v.at v.opened.alone,
        meant_blocks c v.graph _ v.id v.object _ b.steps.store.account v.at b.is_open.alone,
        sum_both (free a) (meant a) run,
        sum_both (free c) (meant c) run,
        sum_each (λ n. free a n + meant a n) (λ n. free c n + meant c n) run (λ n. elim (b.steps.only.entries n) [
          | inl same ↦ ap (λ (e : Option MapEntry). one (is_free_entry e) + one (is_owned_by is_meant v.id.block e)) (sym same)
          | inr two ↦ free_or_meant v.id.block (entry_in a n) two.0 ∙ sym (free_or_meant v.id.block (entry_in c n) two.1)
        ]),
        ap (count_in (is_free_in c) 0) b.steps.only.size,
        ap (count_in (is_meant_for c v.id.block) 0) b.steps.only.size,
      )

  -- where it has got as many blocks as it claimed, none of them is Free again
  exact : (es : List MapEntry) → length es + own_blocks (opened_as was v.draft) ≤ own_blocks (opened_as now d) → ClaimsAndDrops v.id.block es (g.content d1) (g.content d2) → AreClaimed es (g.content d1) (g.content d2)
  exact es few order = claims_same es a order.mid c order.claimed same
    where
      a : Image
      a = g.content d1

      c : Image
      c = g.content d2

      dropped : ℕ → Bool
      dropped n = is_free_in c n && not (is_free_in order.mid n)

      none : count_in dropped 0 (length c) ≡ 0
      none =
          let run = range_with_len 0 (length c) in
          let free = λ (i : Image) (n : ℕ). one (is_free_in i n) in
          let still = λ (n : ℕ) (free : is_free_in order.mid n ≡ true). elim (order.left n) as (λ x. is_free_in c n ≡ true) [ inl kept ↦ ap is_free_entry kept ∙ free | inr two ↦ two.1 ] in
          omega (
            arith,
            spent,
            few,
            sum_is a k1 v.store.counts,
            sum_is c k2 b.steps.store.counts,
            claims_take es a order.mid (length c) order.claimed,
            sum_both (free order.mid) (λ n. one (dropped n)) run,
            sum_each (free c) (λ n. free order.mid n + one (dropped n)) run (λ n. more_free (is_free_in c n) (is_free_in order.mid n) (still n)),
            ap (count_in (is_free_in a) 0) b.steps.only.size,
          )

      same : SameEntries order.mid c
      same n = elim (order.left n) [
        | inl kept ↦ kept
        | inr two ↦
            let e = free_is c n two.1 in
            let taken : is_free_in order.mid n ≡ false = false_from_ne_true _ (λ free. both_ways _ (free_unplaced is_meant refl (entry_in order.mid n) free) (and_parts (is_placed is_meant (entry_in order.mid n)) _ two.0).0) in
            let is : dropped n ≡ true = rw (two.1, taken) refl in
            absurd (both_ways _ (none_in dropped 0 (length c) n none (omega arith) (omega (arith, in_image c v.graph b.steps.store.account.holds n e.0 e.1))) is)
      ]

-- ---- a resize of a draft that was begun claims what it has then

abbrev IsKept : List ℕ → List ℕ → Type 0
IsKept ns ks = (numbers_rise ns ≡ true) × ((x : ℕ) → has_number x ns ≡ true → has_number x ks ≡ true)

kept_all : (ns ks : List ℕ) → IsKept ns ks → shared (with_numbers ns []) ks ≡ ns
kept_all ns ks is =
    same_numbers (shared (with_numbers ns []) ks) ns (filter-rises (λ n. has_number n ks) (with_numbers ns []) (with_numbers-rise ns)) is.0
    (λ x has. in_withs x ns (in_filter (λ n. has_number n ks) x (with_numbers ns []) has).1)
    (λ x has. to_filter (λ n. has_number n ks) x (with_numbers ns []) (is.1 x has) (to_withs x ns has))

all_lacking : (ns : List ℕ) → lacking ns [] ≡ ns
all_lacking [] = refl
all_lacking (n ∷ ns) = ap (λ (ms : List ℕ). n ∷ ms) (all_lacking ns)

levels_kept : (ls ns ks ms : List ℕ) → IsKept ls ks → IsKept ns ms → sum_by length (shared (with_numbers ls []) ks ∷ shared (with_numbers ns []) ms ∷ []) ≡ missing (ls ∷ ns ∷ []) []
levels_kept ls ns ks ms leaves nodes = rw (kept_all ls ks leaves, kept_all ns ms nodes, all_lacking ls, all_lacking ns) (omega (arith, sum_by-cons {X = List ℕ} length ls (ns ∷ []), sum_by-cons {X = List ℕ} length ns []))

claims_many : (at : ℕ) (anew : List (List ℕ)) → length (claims_anew at anew []) ≤ missing anew []
claims_many at [] = omega arith
claims_many at (ls ∷ []) = omega (arith, length-append (map (λ l. intended (Leaf l) at) (lacking ls [])) [], length-map (lacking ls []) (λ l. intended (Leaf l) at))
claims_many at (ls ∷ ns ∷ more) = omega (
  arith,
  length-append (map (λ l. intended (Leaf l) at) (lacking ls [])) (map (λ n. intended (Node n) at) (lacking ns [])),
  length-map (lacking ls []) (λ l. intended (Leaf l) at),
  length-map (lacking ns []) (λ n. intended (Node n) at),
)

module _ (size : ℕ) (f : File) where
  abbrev held : List ℕ
  held = filter (λ leaf. nat_lt leaf (leaves_in size)) f.held

  cut_kept : (b : Bool) → (size % 512 == 0) ≡ b → IsKept (cond b [] (shared (size / 512 ∷ []) f.held)) held
  cut_kept true whole = (refl, λ x is. cc)
  cut_kept false cut = (
    filter-rises (λ n. has_number n f.held) (size / 512 ∷ []) refl,
    λ x is. let two = in_filter (λ n. has_number n f.held) x (size / 512 ∷ []) is in to_filter (λ leaf. nat_lt leaf (leaves_in size)) x f.held (lt-ltb x (leaves_in size) (omega (arith, eqb-false (size % 512) 0 cut, eqb-true _ x (only (size / 512) x two.1)))) two.0,
  )

  -- which nodes are written anew of those that are kept
  abbrev changes : ℕ → Bool
  changes n = has_number n (parents (with_numbers (filter (λ leaf. nat_le (leaves_in size) leaf) f.held) (lacking (cut_leaf size f.held) [])))

  as_many : sum_by length (fresh_after (SetSize size) (objects.File f) []) ≡ missing (written_anew (SetSize size) (objects.File f) []) []
  as_many = elim (nat_le (length f.bytes) size) as (λ b. sum_by length (within (merged (cond b [] (resize_anew 1 size f.held [])) []) (held ∷ parents held ∷ [])) ≡ missing (cond b [] (resize_anew 1 size f.held [])) []) [
    | true ↦ refl
    | false ↦ levels_kept (cut_leaf size f.held) (filter changes (parents held)) held (parents held) (cut_kept (size % 512 == 0) refl) (filter-rises changes (parents held) (with_numbers-rise (map (λ n. n / fan_out) held)), λ x is. (in_filter changes x (parents held) is).1)
  ]

pub resized_drafts : {D : Type 0} {g : Ghosts D} {at size floor : ℕ} {d0 d1 d2 : D} {k0 k1 k2 : Kept} {was now : Drafting} (m : MayChangeFile g at kinds.Special (SetSize size) d0 k0) (b : Begun g at d0 d1 k0 k1 was) → now.shadow ≡ was.shadow
    → Resized g m.view.graph (drafts_begun (standing m) was) m.view.id (equal_to (objects.File m.file)) size floor d1 d2 k1 k2 was now → DraftChanged m floor d1 d2 k1 k2 was now
resized_drafts {size = size} {was = was} {now = now} m b same x =
    let v = view_begun m b in
    let anew = written_anew (SetSize size) (objects.File m.file) [] in
    let none : was.shadow ≡ None = ap (λ (y : Drafting). y.shadow) b.call.begun in
    let before : own_blocks (opened_as was v.draft) ≡ 0 = ap (λ (s : Option ℕ). length (option_to_list s) + 0) none in
    let after : own_blocks (opened_as now (changed_draft (SetSize size) v.draft)) ≡ missing anew [] = omega (arith, as_many size m.file, ap (λ (s : Option ℕ). length (option_to_list s)) (same ∙ none)) in
    record {
      becomes = x.becomes;
      order = exact v x.becomes (claims_anew was.at anew []) (omega (arith, before, after, claims_many was.at anew)) x.order;
      room = x.room;
      spare = omega (arith, spent v x.becomes, before, after, x.room, ap (λ (y : Drafting). shadow_need y) b.call.begun);
    }
