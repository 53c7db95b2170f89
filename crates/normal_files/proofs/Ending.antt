-- How calls end that take blocks, one after another.
use Rattle.normal_files.proofs.Words.{◌≡◌, ◌⊎◌, Result, inl, inr, ℕ, ◌+◌, ◌≤◌, Bool, true, false, Ok, Err, List, refl, sym, ◌∙◌, ap, subst, arith, sum, IsSome, None, Some, Option, ◌||◌, OnlyReads, Image, after_try, had_tried, refused_by, trouble_after_try, Tells, Ghosts, BlockNo, Refused, Trouble, reads_within, stopped_after_reads, stopped_after_try, still_tells, MapEntry, AreMaps, entry_in, map_of, Enters, IsFindRefusal, AreCounts, IsBadMap, Kept, Damage, HasStoppedBy}
use Rattle.cfs_base.specs.Went.{KnowsTries, known_after}
use Rattle.cfs_base.proofs.Went.{makes_none, reads_none, told_as, went_as, went_then}
use Rattle.cyl_alloc.proofs.Takes.{enters_went, takes_none, takes_then, takes_within}
use Rattle.normal_files.specs.Ends.{HasGone, IsNoSpace, IsStop, TakingWent, is_damaged, refused_after, Halts, NoMap, OtherCount}
use Rattle.normal_files.specs.Steps.{RunWent, WritesBlock, HasCome, told_after}
use Rattle.normal_files.specs.Takes.{GetsNode, leaf_takes, Claims, Had}
use Rattle.normal_files.proofs.Come.{come_wrote, done_as, known_either, write_stopped}
use Rattle.cyl_alloc.proofs.Miscounts.{miscounted_as, no_miscount}
use Rattle.cyl_alloc.specs.Space.{IsMiscounted}
use Rattle.cfs_base.specs.declared.refusal.Refused.TheVariants as refusals
use Rattle.cfs_base.specs.declared.refusal.Trouble.TheVariants as trouble

-- ---- one refusal told as another

pub still_sound : (tried : Bool) (e : Refused) → is_damaged e ≡ false → is_damaged (refused_after tried e) ≡ false
still_sound false e is = is
still_sound true (refusals.Full need) is = refl
still_sound true (refusals.Disk was) is = refl
still_sound true (refusals.Damaged damage) is = is
still_sound true refusals.Memory is = refl

pub stopped_sound : {D : Type 0} (g : Ghosts D) (old new : D) (t : Trouble) → HasStoppedBy g old new t → is_damaged (refused_by t) ≡ false
stopped_sound g old new (trouble.Disk tried) is = refl
stopped_sound g old new (trouble.Damaged damage) is = absurd is

pub same_after : (tried : Bool) (t : Trouble) → refused_by (told_after tried t) ≡ refused_after tried (refused_by t)
same_after true (trouble.Disk tried) = refl
same_after true (trouble.Damaged damage) = refl
same_after false t = refl

pub same_disk : (tried : Bool) {t : Trouble} → t ≡ trouble.Disk true → refused_after tried (refused_by t) ≡ refused_by t
same_disk true is = ap (λ t. after_try (refused_by t)) is ∙ sym (ap refused_by is)
same_disk false is = refl

untried_after : (b : Bool) (e : Refused) → refused_after b e ≡ refusals.Disk false → (Some b ≡ Some false) × (e ≡ refusals.Disk false)
untried_after true (refusals.Full need) same = cc
untried_after true (refusals.Disk tried) same = cc
untried_after true (refusals.Damaged damage) same = cc
untried_after true refusals.Memory same = cc
untried_after false e same = (refl, same)

-- ---- runs

pub or_true : (b : Bool) → (b || true) ≡ true
or_true true = refl
or_true false = refl

pub gone_none : {D : Type 0} (g : Ghosts D) (d : D) (kept : Kept) (n t k : ℕ) → HasGone g n t k false d d kept kept
gone_none g d kept n t k = record { told = λ b was. was; knows = (refl, reads_none g n d); refused = tt; untried = tt; moves = takes_none kept k; calls = makes_none g d n t }

-- calls that take no block
pub gone_come : {D : Type 0} {g : Ghosts D} {n t : ℕ} {old new : D} {result : Result Bool Trouble} → RunWent g n t old new result → (kept : Kept) → TakingWent g n t 0 old new kept kept (told_as refused_by result)
gone_come {g = g} {n = n} {old = old} {new = new} {result = Ok b} come kept = record { told = come.told; knows = on b come.knows; refused = tt; untried = tt; moves = takes_none kept 0; calls = come.calls }
  where
    on : (x : Bool) → KnowsTries g n old new (tt {0}) (tt {0}) (Some x) → KnowsTries g n old new kept kept (Some x)
    on true is = is
    on false is = (refl, is.1)
gone_come {g = g} {old = old} {new = new} {result = Err e} ends kept = record { told = tt; knows = tt; refused = λ room. stop e ends.refused; untried = λ same. (refl, (ends.untried (disk e same)).1); moves = takes_none kept 0; calls = ends.calls }
  where
    stop : (x : Trouble) → HasStoppedBy g old new x → IsStop g old new kept (refused_by x)
    stop (trouble.Disk tried) is = is
    stop (trouble.Damaged damage) is = absurd is

    disk : (x : Trouble) → refused_by x ≡ refusals.Disk false → x ≡ trouble.Disk false
    disk (trouble.Disk tried) same = cc
    disk (trouble.Damaged damage) same = cc

-- with greater bounds
pub gone_within : {D : Type 0} {g : Ghosts D} {n t k m s j : ℕ} {old new : D} {before after : Kept} {result : Result Bool Refused} → TakingWent g n t k old new before after result → n ≤ m → t ≤ s → k ≤ j → TakingWent g m s j old new before after result
gone_within {m = m} {s} gone more tries blocks = went_as m s m (takes_within blocks) (λ e why room. why (omega (arith, room, blocks))) (λ e is. is) (λ x is. is) gone more tries more

module _ {D : Type 0} {g : Ghosts D} {n t k : ℕ} {start mid : D} {k0 k1 : Kept} where
  pub gone_then : {m s j : ℕ} (b c : Bool) {new : D} {k2 : Kept} → HasGone g n t k b start mid k0 k1 → HasGone g m s j c mid new k1 k2 → HasGone g (n + m) (t + s) (k + j) (b || c) start new k0 k2
  gone_then b c gone more = done_as (known_either b c) (went_then {both_known = λ y. known_after (Some b) (Some y)} (λ (e : Refused). e) (takes_then (omega arith)) tt tt refl gone more)

  -- what was refused after calls of which none failed
  stop_after : (new : D) (kept : Kept) (b : Bool) (e : Refused) → HasGone g n t k b start mid k0 k1 → IsStop g mid new kept e → IsStop g start new kept (refused_after b e)
  stop_after new kept b e gone stop = by b e gone stop
    where
      since : Tells g start → Tells g mid
      since tells = still_tells g tells gone.told gone.calls.same

      on : (damage : Damage) → IsNoSpace g mid new kept damage → IsNoSpace g start new kept damage
      on damage (NoMap code map on_disk bad) = NoMap code map on_disk (λ tells. bad (since tells))
      on damage (OtherCount code other) = OtherCount code (miscounted_as since refl refl other)

      by : (x : Bool) (f : Refused) → HasGone g n t k x start mid k0 k1 → IsStop g mid new kept f → IsStop g start new kept (refused_after x f)
      by true (refusals.Full need) was is = is
      by true (refusals.Disk tried) was is = stopped_after_try g start mid new n t tried was.calls was.knows is
      by true (refusals.Damaged damage) was is = on damage is
      by true refusals.Memory was is = is
      by false (refusals.Full need) was is = is
      by false (refusals.Disk tried) was is = stopped_after_reads g start mid new n tried was.knows.1 is
      by false (refusals.Damaged damage) was is = on damage is
      by false refusals.Memory was is = is

  pub gone_err : {m s j : ℕ} (b : Bool) {new : D} {k2 : Kept} (e : Refused) → HasGone g n t k b start mid k0 k1 → Halts g m s j mid new k1 k2 e → Halts g (n + m) (t + s) (k + j) start new k0 k2 (refused_after b e)
  gone_err b {new} {k2} e gone ends = went_then (refused_after b) (takes_then (omega arith)) (λ why room. stop_after new k2 b e gone (why (omega (arith, room, gone.moves.takes)))) (untried_after b e) tt gone ends

-- the last call of three, which tried a write
pub gone_last : {D : Type 0} {g : Ghosts D} {n t k m s j l q : ℕ} (a b : Bool) {d0 d1 d2 d3 : D} {k0 k1 k2 : Kept} → HasGone g n t k a d0 d1 k0 k1 → HasGone g m s j b d1 d2 k1 k2 → HasCome g l q true d2 d3 → HasGone g (n + m + l) (t + s + q) (k + j + 0) true d0 d3 k0 k2
gone_last a b {k2 = k2} one two last = done_as (ap Some (or_true (a || b))) (gone_then (a || b) true (gone_then a b one two) (gone_come last k2))

-- ---- a block taken

pub enters_gone : {D : Type 0} {g : Ghosts D} {e : MapEntry} {old new : D} {before after : Kept} {x : BlockNo} → Enters g e old new before after (Ok x) → HasGone g 2 1 1 true old new before after
enters_gone is = let went = enters_went is in record { told = went.told; knows = went.knows; refused = tt; untried = tt; moves = went.moves; calls = went.calls }

module _ {D : Type 0} {g : Ghosts D} {e : MapEntry} {old new : D} {before after : Kept} {error : Refused} (is : Enters g e old new before after (Err error)) where
  pub enters_halts : Halts g 2 1 1 old new before after error
  enters_halts =
      let went = enters_went is in record {
        told = tt;
        knows = tt;
        refused = why error is.refused is.unless_tried;
        untried = λ same. let two = went.untried (ap had_tried same) in (two.0, reads_within g old new 1 2 (omega arith) two.1);
        moves = went.moves;
        calls = went.calls;
      }
    where
      why : (x : Refused) → IsFindRefusal g old new before x → (had_tried x ≡ false → OnlyReads g 1 old new) → 1 ≤ sum before.free → IsStop g old new after x
      why (refusals.Full need) find only room = absurd (omega (arith, find.2, room))
      why (refusals.Disk tried) find only room = find
      why (refusals.Damaged damage) find only room = by find.why
        where
          content : g.content new ≡ g.content old
          content = (only refl).content

          by : ((damage.code ≡ 2) × (Tells g old → IsBadMap (g.content old) damage.block)) ⊎ ((damage.code ≡ 12) × IsMiscounted (Tells g old) (g.content old) before damage.block) → IsNoSpace g old new after damage
          by (inl (code, bad)) = NoMap code find.block (omega (arith, find.on_disk, (only refl).same.size)) (λ tells. subst (λ (c : Image). IsBadMap c damage.block) (sym content) (bad tells))
          by (inr (code, other)) = OtherCount code (miscounted_as (λ tells. tells) content (is.kept refl) other)
      why refusals.Memory find only room = absurd find

  -- where the maps are whole and counted a Free block is found, or a device call failed
  pub enters_sound : Tells g old → AreMaps (g.content old) → AreCounts (g.content old) before → is_damaged error ≡ false
  enters_sound tells maps counts = why error is.refused
    where
      some : (o : Option MapEntry) → o ≡ None → IsSome o → ⊥
      some None none h = cc
      some (Some entry) none h = cc

      why : (x : Refused) → IsFindRefusal g old new before x → is_damaged x ≡ false
      why (refusals.Full need) find = refl
      why (refusals.Disk tried) find = refl
      why (refusals.Damaged damage) find = absurd (by find.why)
        where
          by : ((damage.code ≡ 2) × (Tells g old → IsBadMap (g.content old) damage.block)) ⊎ ((damage.code ≡ 12) × IsMiscounted (Tells g old) (g.content old) before damage.block) → ⊥
          by (inl (code, bad)) = let b = bad tells in some (entry_in (g.content old) (map_of damage.block + b.0)) b.2 (maps (map_of damage.block + b.0) (omega (arith, b.1, counts.size, find.first.0)))
          by (inr (code, other)) = absurd (no_miscount (g.content old) before damage.block tells counts other)
      why refusals.Memory find = refl

-- ---- one leaf

pub takes_one : (h : Bool) → 1 ≤ leaf_takes h
takes_one true = omega arith
takes_one false = omega arith

module _ {D : Type 0} {g : Ghosts D} {owner number : ℕ} {held : Bool} {block : ℕ} {e : MapEntry} {d0 d1 d2 : D} {k0 k1 k2 : Kept} {x : BlockNo} (enters : Enters g e d0 d1 k0 k1 (Ok x)) where
  pub node_halts : {error : Refused} → GetsNode g number owner held block d1 d2 k1 k2 (Err error) → Halts g 5 3 (leaf_takes held) d0 d2 k0 k2 (after_try error)
  node_halts (Had some same kept is) = cc
  node_halts {error} (Claims none gets) = gone_within (gone_err true error (enters_gone enters) (enters_halts gets)) (omega arith) (omega arith) (let two : leaf_takes held ≡ 2 = ap leaf_takes none in omega (arith, two))

  module _ {y : BlockNo} (gets : GetsNode g number owner held block d1 d2 k1 k2 (Ok y)) where
    gone2 : HasGone g 4 2 (leaf_takes held) true d0 d2 k0 k2
    gone2 = by gets
      where
        by : GetsNode g number owner held block d1 d2 k1 k2 (Ok y) → HasGone g 4 2 (leaf_takes held) true d0 d2 k0 k2
        by (Had some same kept is) =
            let one : leaf_takes held ≡ 1 = ap leaf_takes some in
            subst (λ (d : D). HasGone g 4 2 (leaf_takes held) true d0 d k0 k2) (sym same) (subst (HasGone g 4 2 (leaf_takes held) true d0 d1 k0) (sym kept) (gone_within (enters_gone enters) (omega arith) (omega arith) (omega (arith, one))))
        by (Claims none gets2) = let two : leaf_takes held ≡ 2 = ap leaf_takes none in gone_within (gone_then true true (enters_gone enters) (enters_gone gets2)) (omega arith) (omega arith) (omega (arith, two))

    module _ {at : ℕ} {content : List ℕ} {d3 : D} where
      pub leaf_gone : WritesBlock g 1 at content d2 d3 (Ok tt) → HasGone g 5 3 (leaf_takes held) true d0 d3 k0 k2
      leaf_gone writes = gone_within (gone_then true true gone2 (gone_come (come_wrote writes) k2)) (omega arith) (omega arith) (omega arith)

      pub leaf_halts : (t : Trouble) → WritesBlock g 1 at content d2 d3 (Err t) → t ≡ trouble.Disk true → Halts g 5 3 (leaf_takes held) d0 d3 k0 k2 (refused_by (trouble_after_try t))
      leaf_halts t writes is = subst (Halts g 5 3 (leaf_takes held) d0 d3 k0 k2) (sym (same_after true t)) (gone_within (gone_err true (refused_by t) gone2 (gone_come (write_stopped writes is) k2)) (omega arith) (omega arith) (omega arith))
