-- How a line is gathered from what is held and what the source gives.
use Rattle.std.proofs.Common.{◌≡◌, ℕ, ◌+◌, ◌<◌, ◌≤◌, Bool, true, false, List, [], ◌++◌, length, refl, sym, ap, ◌∙◌, arith, Some, append_assoc}
use Rattle.std.proofs.lemmas.Bool.{and_from, false≢true}
use Rattle.std.proofs.lemmas.List.{append-nil}
use Rattle.std.proofs.lemmas.List.Folds.{list_all-append}
use Rattle.cfs_base.specs.Outside.{Intake, Supply}
use Rattle.cfs_streams.specs.Reading.{Gave}
use Rattle.cfs_streams.proofs.ReadLaws.{then}
use Rattle.cfs_ports.specs.Lines.{HasAnsweredLines, IsCaughtUp, LinesReading, RefusesLine, TakesLastLine, TakesWholeLine, is_within_line, joined_lines}
use Rattle.cfs_ports.specs.Pieces.{HoldsMore, HoldsNothing, TakesPiece, after_piece}
use Rattle.cfs_ports.specs.declared.lines.LineFault.TheVariants as faults
use Rattle.ufs_model.specs.Limits.{most_line}

-- from an old reading on, the bytes that were held and those that were read are the line so far and what is held now
pub record IsGathering (old now : LinesReading) : Type 0 where
  pub read : List ℕ
  pub gave : Gave old.supply now.supply read
  pub split : old.held ++ read ≡ now.line ++ now.held
  pub within : is_within_line now.line ≡ true
  pub fits : length now.line ≤ most_line + 1
  pub began : now.ended ≡ false → old.ended ≡ false
  pub still : old.ended ≡ true → now.line ≡ []
  pub over : now.ended ≡ true → now.held ≡ []
  pub all : now.ended ≡ true → old.ended ≡ false → (left : List ℕ) → old.supply.left ≡ Some left → left ≡ read

pub begins : (old : LinesReading) → (old.ended ≡ true → old.held ≡ []) → IsGathering old (record old { line = [] })
begins old over = record {
  read = [];
  gave = record { kept = omega arith; first = λ left told. (left, told, refl) };
  split = append-nil old.held;
  within = refl;
  fits = omega arith;
  began = λ e. e;
  still = λ e. refl;
  over = over;
  all = λ e f. absurd (cc);
}

-- with a piece more, the line is within still
piece_within : {old now new : LinesReading} {whole : Bool} → IsGathering old now → TakesPiece now new whole
    → is_within_line new.line ≡ true
piece_within {old} {now} {new} s p =
    ap is_within_line p.line ∙ list_all-append _ now.line p.piece ∙ and_from _ _ s.within p.within

piece_split : {old now new : LinesReading} {whole : Bool} (s : IsGathering old now) → TakesPiece now new whole
    → old.held ++ s.read ≡ new.line ++ after_piece whole new.held
piece_split {old} {now} {new} {whole} s p =
    s.split ∙ ap (λ xs. now.line ++ xs) p.split ∙ sym (append_assoc now.line p.piece (after_piece whole new.held))
    ∙ ap (λ xs. xs ++ after_piece whole new.held) (sym p.line)

-- all that was read is in the line
taken : {old now new : LinesReading} (s : IsGathering old now) → TakesPiece now new false → old.held ++ s.read ≡ new.line
taken {old} {now} {new} s p = piece_split s p ∙ append-nil new.line

piece_gave : {old now new : LinesReading} {whole : Bool} (s : IsGathering old now) → TakesPiece now new whole
    → Gave old.supply new.supply s.read
piece_gave s p = rw p.supply s.gave

-- ---- a read

pub goes_on : {old now mid new : LinesReading} → IsGathering old now → now.ended ≡ false → TakesPiece now mid false
    → length mid.line ≤ most_line + 1 → HoldsMore mid new → IsGathering old new
goes_on {old} {now} {mid} {new} s going p fits m =
    let gave = piece_gave s p in
    record {
      read = s.read ++ new.held;
      gave = then gave m.gave;
      split = sym (append_assoc old.held s.read new.held) ∙ ap (λ xs. xs ++ new.held) (taken s p ∙ sym m.line);
      within = ap is_within_line m.line ∙ piece_within s p;
      fits = rw m.line fits;
      began = λ e. s.began going;
      still = λ e. absurd (false≢true (sym (s.began going) ∙ e));
      over = λ e. (m.none e).0;
      all = λ e f left told.
          let one = gave.first left told in
          let nothing = (m.none e).1 one.0 one.1 in
          one.2 ∙ ap (λ xs. s.read ++ xs) (nothing ∙ sym (m.none e).0);
    }

pub caught_up : {old now mid : LinesReading} (session : ℕ) (source : Supply) (sink sink_now : Intake) → IsGathering old now
    → TakesPiece now mid false → HasAnsweredLines session source sink old.supply sink_now old.held
    → IsCaughtUp session source sink mid.supply sink_now
caught_up {old} {now} {mid} session source sink sink_now s p a = record {
  begun = mid.line;
  within = piece_within s p;
  answered = record {
    lines = a.lines;
    whole = a.whole;
    gave =
        let both = then a.gave (piece_gave s p) in
        let same : (joined_lines a.lines ++ old.held) ++ s.read ≡ joined_lines a.lines ++ mid.line =
        append_assoc (joined_lines a.lines) old.held s.read ∙ ap (λ xs. joined_lines a.lines ++ xs) (taken s p) in
        rw same at both;
    turns = a.turns;
    mine = a.mine;
    each = a.each;
    replied = a.replied;
  };
}

-- ---- what comes of it

pub whole_line : {old now new : LinesReading} → IsGathering old now → now.ended ≡ false → TakesPiece now new true
    → TakesWholeLine old new
whole_line s going p = record {
  read = s.read;
  gave = piece_gave s p;
  split = piece_split s p;
  within = piece_within s p;
  goes_on = p.ended ∙ going;
}

pub last_line : {old now : LinesReading} → IsGathering old now → now.ended ≡ true → TakesLastLine old now
last_line {old} {now} s ended = record {
  read = s.read;
  gave = s.gave;
  split = s.split ∙ ap (λ xs. now.line ++ xs) (s.over ended) ∙ append-nil now.line;
  within = s.within;
  over = (s.over ended, ended);
  at_end = s.all ended;
}

pub too_long : {old now new : LinesReading} {whole : Bool} → IsGathering old now → TakesPiece now new whole
    → most_line + 1 < length new.line → RefusesLine old new faults.Long
too_long {old} {now} {new} {whole} s p long = record {
  read = s.read;
  gave = piece_gave s p;
  begun = new.line;
  more = after_piece whole new.held;
  split = piece_split s p;
  within = piece_within s p;
  why = long;
}

pub failed : {old now mid new : LinesReading} → IsGathering old now → TakesPiece now mid false → HoldsNothing mid new
    → RefusesLine old new faults.Failed
failed {old} {now} {mid} {new} s p n =
    let gave = piece_gave s p in
    record {
      read = s.read ++ [];
      gave = then gave n.gave;
      begun = mid.line;
      more = [];
      split = ap (λ xs. old.held ++ xs) (append-nil s.read) ∙ piece_split s p;
      within = piece_within s p;
      why = (refl, omega (arith, gave.kept, n.failed));
    }
