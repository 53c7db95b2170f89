use Rattle.std.proofs.Common.{inl, ⊎_elim, ℕ, ◌+◌, List, [], ◌∷◌, ◌++◌, IsTrue, length, refl, sym, ◌∙◌, ap, subst, arith}
use Rattle.pair_disk.proofs.Words.{History, Image, IsTornImage, IsOfBlocks, KeptCall, Left, all_before, before_more, left_earlier, left_kept, left_now_kept, torn_by, call_moment, replayed_writes, replay_kept, unwritten}
use Rattle.pair_disk.proofs.Replays.{size_more}
use Rattle.pair_disk.proofs.history.History.keep.Goals as goal

-- a crash may leave it after these calls, up to this moment
abbrev LeftBy : History → ℕ → List KeptCall → ℕ → Image → Type 0
LeftBy h now calls t i = Left IsTornImage (λ m. replayed_writes (unwritten h.first.items) m calls) now t i

pub returns-then-self-clause-images : goal.returns-then-self-clause-images
returns-then-self-clause-images c =
    let p = c.pass.ensures.images in
    record {
      later = p.later;
      since = λ t i le h. ⊎_elim (λ old. inl old) (λ none. absurd none) (p.since t i le h);
      now = λ i h. ⊎_elim (λ old. inl old) (λ none. absurd none) (p.now i h);
    }

-- the list that a push left as it was
pub returns-in_default-clause-images : goal.returns-in_default-clause-images
returns-in_default-clause-images c =
    let r = c.args.self.now in
    let p = c.pass-in_default.ensures.images in
    let was : (t : ℕ) (i : Image) → LeftBy r r.moment c.push.new.self.items t i → LeftBy r r.moment r.kept.items t i =
    λ t i h. subst (λ (l : List KeptCall). LeftBy r r.moment l t i) c.in_default.ensures.items h in
    record {
      later = p.later;
      since = λ t i le h. ⊎_elim (λ old. inl (was t i old)) (λ none. absurd none) (p.since t i le h);
      now = λ i h. ⊎_elim (λ old. inl (was r.moment i old)) (λ none. absurd none) (p.now i h);
    }

pub invariant_of-self-2-clause-past : goal.invariant_of-self-2-clause-past
invariant_of-self-2-clause-past c =
    let r = c.args.self.now in
    subst (λ (l : List KeptCall). IsTrue (all_before call_moment (r.moment + 1) l)) (sym c.in-Ok.ensures.items) (before_more call_moment r.moment r.kept.items (record { moment = r.moment; call = c.args.call }) refl r.past)

pub invariant_of-self-2-clause-sized : goal.invariant_of-self-2-clause-sized
invariant_of-self-2-clause-sized c = λ t.
    let r = c.args.self.now in
    subst (λ (l : List KeptCall). IsOfBlocks (length r.first.items) (replayed_writes (unwritten r.first.items) t l)) (sym c.in-Ok.ensures.items) (size_more (length r.first.items) t (unwritten r.first.items) r.kept.items (record { moment = r.moment; call = c.args.call }) c.requires (r.sized t))

pub returns-clause-kept : goal.returns-clause-kept
returns-clause-kept c =
    let r = c.args.self.now in
    ap (λ (l : List KeptCall). replayed_writes (unwritten r.first.items) (r.moment + 1) l) c.in-Ok.ensures.items ∙ replay_kept call_moment torn_by (unwritten r.first.items) r.moment r.kept.items r.past (record { moment = r.moment; call = c.args.call }) refl

pub returns-clause-images : goal.returns-clause-images
returns-clause-images c =
    let r = c.args.self.now in
    let e : KeptCall = record { moment = r.moment; call = c.args.call } in
    let is : (t : ℕ) (i : Image) → LeftBy r (r.moment + 1) c.push.new.self.items t i → LeftBy r (r.moment + 1) (r.kept.items ++ e ∷ []) t i =
    λ t i h. subst (λ (l : List KeptCall). LeftBy r (r.moment + 1) l t i) c.in-Ok.ensures.items h in
    let kept = left_kept call_moment torn_by IsTornImage (unwritten r.first.items) r.moment r.kept.items r.past e refl in
    record {
      later = omega arith;
      since = λ t i le h. kept t t i (omega arith) le (is t i h);
      now = λ i h. kept r.moment (r.moment + 1) i (omega arith) (omega arith) (is (r.moment + 1) i h);
    }

pub returns-clause-here : goal.returns-clause-here
returns-clause-here c =
    let r = c.args.self.now in
    λ i h. left_now_kept call_moment torn_by IsTornImage (unwritten r.first.items) r.moment r.kept.items r.past (record { moment = r.moment; call = c.args.call }) refl i (subst (λ (l : List KeptCall). LeftBy r (r.moment + 1) l (r.moment + 1) i) c.in-Ok.ensures.items h)

pub returns-clause-keeps : goal.returns-clause-keeps
returns-clause-keeps c =
    let r = c.args.self.now in
    λ t i le h. subst (λ (l : List KeptCall). LeftBy r (r.moment + 1) l t i) (sym c.in-Ok.ensures.items) (left_earlier call_moment torn_by IsTornImage (unwritten r.first.items) r.moment r.kept.items r.past (record { moment = r.moment; call = c.args.call }) refl t i h)
