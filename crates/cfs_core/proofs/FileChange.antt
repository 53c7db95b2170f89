-- A request that changes a file: what it makes of the file, and how many blocks that takes.
use Rattle.std.proofs.Common.{◌≡◌, ◌⊎◌, inl, inr, ℕ, ◌+◌, ◌<◌, ◌≤◌, [], length, true, false, cond, Some, None, refl, sym, ◌∙◌, ap, subst, arith, List, ◌∷◌, nat_lt}
use Rattle.cfs_core.proofs.Words.{and_parts, blocks_of, byte_may_stand, Change, change_need, change_of, changed, changed_object, creates, draft_of, each_from, eq-eqb, File, FileKind, Fill, filter-rises, Graph, has_number, held_levels, here, HoldsOfEither, in_filter, in_with, index_has_pair, is_among, is_object, is_running}
use Rattle.cfs_core.proofs.Words.{is_there, IsSpeakable, object_kind, later, leaves_in, list_all, named, nat_tests, Need, need_for, need_of, next, numbers_rise, Object, object_at, object_at-with_object, outcome_of, Overwrite, pair_from_index, Puid, Ref, referred, refusal_of, Request, resized}
use Rattle.cfs_core.proofs.Words.{rises-with_object, same_puid, same_puid_is, SetSize, State, still_there, target, touched, with_numbers, with_object, withs-rise, written, Reply}
use Rattle.cfs_base.specs.declared.kind.FileKind.TheVariants as kinds
use Rattle.cfs_base.specs.declared.refusal.Refused.TheVariants as refusals
use Rattle.ufs_model.specs.declared.asked.Event.TheVariants as events
use Rattle.ufs_model.specs.declared.asked.Reply.TheVariants as replies
use Rattle.ufs_model.specs.declared.asked.Request.TheVariants as asks
use Rattle.ufs_model.specs.declared.object.Object.TheVariants as objects
use Rattle.ufs_model.specs.Graph.{IsClosedGraph}
use Rattle.ufs_model.specs.Next.{is_direct_delete}
use Rattle.cfs_core.specs.Damage.{bytes_wanted}
use Rattle.file_ops.specs.Changes.{least_size, is_resize}
use Rattle.cfs_core.specs.Kernel.{Handle}
use Rattle.cfs_core.specs.Commits.{commits}
use Rattle.cfs_core.proofs.Few.{blocks_within}
use Rattle.cfs_core.specs.Claimed.{claims_for, claims_through, commits_alone, is_beside, is_set_size}

-- ---- a request that changes a file

-- the request makes this change of what it goes to
pub record IsChanging (request : Request) (change : Change) : Type 0 where
  pub outcome : (seed : ℕ) (s : State) (who b : ℕ) → outcome_of seed s who request b ≡ (replies.Done, changed s who (target request) change)
  pub need : (s : State) (who : ℕ) → need_of s who request ≡ change_need s who (target request) change
  pub change_is : change_of request ≡ Some change
  pub makes : creates request ≡ false
  pub commits_is : (s : State) (who : ℕ) → commits s who request ≡ is_beside s who (target request)
  pub claims : (handles : List Handle) (s : State) (who : ℕ) (reply : Reply) → claims_for handles s who request reply ≡ claims_through handles s who (target request) change
  pub alone : (s : State) (who : ℕ) → commits_alone s who request ≡ is_beside s who (target request)
  pub delete : is_direct_delete request ≡ false
  pub sets : is_set_size request ≡ is_resize change
  pub wants : bytes_wanted (Some request) ≡ least_size change
  pub full : (seed : ℕ) (s : State) (who : ℕ) (n : Need) → is_running s ≡ true → refusal_of s who request ≡ None → n.need ≡ need_of s who request → n.free < n.need + 4
      → next seed s (events.Ask who request (replies.Full n)) ≡ Some s
  pub speaks : (who : ℕ) → IsSpeakable (events.Ask who request replies.Done)

pub write_changes : (to : Ref) (offset : ℕ) (bytes : List ℕ) → list_all (λ byte. nat_lt byte 256) bytes ≡ true → IsChanging (asks.Write to offset bytes) (Overwrite offset bytes)
write_changes to offset bytes small = record {
  outcome = λ seed s who b. refl;
  need = λ s who. refl;
  change_is = refl;
  makes = refl;
  commits_is = λ s who. refl;
  claims = λ handles s who reply. refl;
  alone = λ s who. refl;
  delete = refl;
  sets = refl;
  wants = refl;
  full = λ seed s who n run goes need few. let less : nat_lt n.free (n.need + 4) ≡ true = grind (arith, nat_tests) in rw (run, goes, eq-eqb n.need _ need, less) refl;
  speaks = λ who. small;
}

pub resize_changes : (to : Ref) (size : ℕ) → IsChanging (asks.Resize to size) (SetSize size)
resize_changes to size = record {
  outcome = λ seed s who b. refl;
  need = λ s who. refl;
  change_is = refl;
  makes = refl;
  commits_is = λ s who. refl;
  claims = λ handles s who reply. refl;
  alone = λ s who. refl;
  delete = refl;
  sets = refl;
  wants = refl;
  full = λ seed s who n run goes need few. let less : nat_lt n.free (n.need + 4) ≡ true = grind (arith, nat_tests) in rw (run, goes, eq-eqb n.need _ need, less) refl;
  speaks = λ who. refl;
}

-- ---- the objects with another file in the place of one

module _ (g : Graph) (closed : IsClosedGraph g) (id : Puid) (f x : File) (found : object_at g id ≡ Some (objects.File f)) where
  abbrev h : Graph
  h = with_object g id (objects.File x)

  other_root : same_puid g.root id ≡ false
  other_root = elim (same_puid g.root id) as (λ b. same_puid g.root id ≡ b → b ≡ false) [
    | true ↦ λ same. (let both : Some (objects.File f) ≡ Some (objects.Index closed.root.0) = sym found ∙ ap (object_at g) (sym (same_puid_is g.root id same)) ∙ closed.root.1 in cc)
    | false ↦ λ other. refl
  ] refl

  pub still_closed : IsClosedGraph h
  still_closed = record {
    ordered = rises-with_object g id (objects.File x) closed.ordered;
    root = (closed.root.0, object_at-with_object g id (objects.File x) g.root ∙ rw other_root closed.root.1, closed.root.2);
    closed = λ i y has. still_there g id (objects.File x) y (let pair = pair_from_index h i y (rises-with_object g id (objects.File x) closed.ordered) has in from i y pair.0 pair.1 pair.2);
  }
    where
      from : (i y : Puid) (o : Object) → object_at h i ≡ Some o → is_among y (referred o) ≡ true → is_there g y ≡ true
      from i y o at refers = elim (same_puid i id) as (λ b. cond b (Some (objects.File x)) (object_at g i) ≡ Some o → is_there g y ≡ true) [
        | true ↦ λ is. (let same : objects.File x ≡ o = cc in let no : false ≡ true = subst (λ (z : Object). is_among y (referred z) ≡ true) (sym same) refers in cc)
        | false ↦ λ is. closed.closed i y (index_has_pair g i y o closed.ordered is refers)
      ] (sym (object_at-with_object g id (objects.File x) i) ∙ at)

-- ---- how many blocks it takes

abbrev pub file_of : Change → File → File
file_of (Overwrite offset bytes) f = written f offset bytes
file_of (SetSize size) f = resized f size
file_of (Fill slot what) f = f

pub is_file : (change : Change) (f : File) → changed_object change (objects.File f) ≡ objects.File (file_of change f)
is_file (Overwrite offset bytes) f = refl
is_file (SetSize size) f = refl
is_file (Fill slot what) f = refl

pub same_kinds : (change : Change) (f : File) → object_kind (changed_object change (objects.File f)) ≡ object_kind (objects.File f)
same_kinds (Overwrite offset bytes) f = refl
same_kinds (SetSize size) f = refl
same_kinds (Fill slot what) f = refl

in_both : (x : ℕ) (ns ms : List ℕ) → has_number x (with_numbers ns ms) ≡ true → (has_number x ms ≡ true) ⊎ (has_number x ns ≡ true)
in_both x [] ms has = inl has
in_both x (n ∷ ns) ms has = elim (in_with x n (with_numbers ns ms) has) [
  | inl same ↦ inr (subst (λ (y : ℕ). has_number x (y ∷ ns) ≡ true) (sym same) (here x ns))
  | inr rest ↦ elim (in_both x ns ms rest) [ inl old ↦ inl old | inr new ↦ inr (later x n ns new) ]
]

-- a file of which each leaf is one of the old file's, or of the changed one's
pub few : (kind : FileKind) (change : Change) (f x : File) → HoldsOfEither f (file_of change f) x → blocks_of (objects.File x) ≤ blocks_of (objects.File f) + need_for kind change f
few kinds.Normal (Overwrite offset bytes) f x is = blocks_within x f (touched offset (length bytes)) (held_levels (objects.File f)) is.rising (λ leaf has. both leaf (is.each leaf has)) (λ n h. h) (λ n h. h)
  where
    both : (leaf : ℕ) → (has_number leaf f.held ≡ true) ⊎ (has_number leaf (written f offset bytes).held ≡ true) → (has_number leaf f.held ≡ true) ⊎ (has_number leaf (touched offset (length bytes)) ≡ true)
    both leaf (inl old) = inl old
    both leaf (inr new) = in_both leaf (touched offset (length bytes)) f.held new
few kinds.Special (Overwrite offset bytes) f x is = omega (arith, blocks_within x f (touched offset (length bytes)) [] is.rising (λ leaf has. both leaf (is.each leaf has)) (λ n h. absurd (none h)) (λ n h. absurd (none h)))
  where
    none : false ≡ true → ⊥
    none h = cc

    both : (leaf : ℕ) → (has_number leaf f.held ≡ true) ⊎ (has_number leaf (written f offset bytes).held ≡ true) → (has_number leaf f.held ≡ true) ⊎ (has_number leaf (touched offset (length bytes)) ≡ true)
    both leaf (inl old) = inl old
    both leaf (inr new) = in_both leaf (touched offset (length bytes)) f.held new
few kind (SetSize size) f x is = omega (arith, blocks_within x f [] [] is.rising (λ leaf has. inl (was leaf (is.each leaf has))) (λ n h. absurd (none h)) (λ n h. absurd (none h)))
  where
    none : false ≡ true → ⊥
    none h = cc

    was : (leaf : ℕ) → (has_number leaf f.held ≡ true) ⊎ (has_number leaf (resized f size).held ≡ true) → has_number leaf f.held ≡ true
    was leaf (inl old) = old
    was leaf (inr new) = (in_filter (λ n. nat_lt n (leaves_in size)) leaf f.held new).1
few kind (Fill slot what) f x is = omega (arith, blocks_within x f [] [] is.rising (λ leaf has. inl (was leaf (is.each leaf has))) (λ n h. absurd (none h)) (λ n h. absurd (none h)))
  where
    none : false ≡ true → ⊥
    none h = cc

    was : (leaf : ℕ) → (has_number leaf f.held ≡ true) ⊎ (has_number leaf f.held ≡ true) → has_number leaf f.held ≡ true
    was leaf (inl old) = old
    was leaf (inr new) = new

-- the changed file is one
pub itself : (change : Change) (f : File) → numbers_rise f.held ≡ true → HoldsOfEither f (file_of change f) (file_of change f)
itself (Overwrite offset bytes) f up = record { rising = withs-rise (touched offset (length bytes)) f.held up; each = λ leaf has. inr has }
itself (SetSize size) f up = record { rising = filter-rises (λ n. nat_lt n (leaves_in size)) f.held up; each = λ leaf has. inr has }
itself (Fill slot what) f up = record { rising = up; each = λ leaf has. inr has }

pub rising_of : (f : File) → is_object (objects.File f) ≡ true → numbers_rise f.held ≡ true
rising_of f is = (and_parts _ (numbers_rise f.held) (and_parts _ (list_all (λ leaf. nat_lt leaf (leaves_in (length f.bytes))) f.held) (and_parts _ (each_from (byte_may_stand f) 0 f.bytes) is).0).0).1

-- what is told of it is what the definitions say
pub need_told : (s : State) (who : ℕ) (to : Ref) (id : Puid) (f : File) (kind : FileKind) (change : Change) → named s who to ≡ Some id → draft_of s who to ≡ None → object_at s.graph id ≡ Some (objects.File f) → f.kind ≡ kind
    → change_need s who to change ≡ need_for kind change f
need_told s who to id f kinds.Normal (Overwrite offset bytes) name bare there is = rw (bare, name, there, is) refl
need_told s who to id f kinds.Normal (SetSize size) name bare there is = rw (bare, name, there, is) refl
need_told s who to id f kinds.Normal (Fill slot what) name bare there is = rw (bare, name, there, is) refl
need_told s who to id f kinds.Special change name bare there is = rw (bare, name, there, is) refl

pub same_need : (a b : Need) → refusals.Full a ≡ refusals.Full b → a ≡ b
same_need a b is = cc
