use Rattle.std.proofs.Common.{◌≡◌, ◌∙◌, ◌+◌, ℕ, List, length, take, drop, replicate, get_or, ap, sym, subst, arith, length-drop}
use Rattle.block_tree.proofs.Words.{IsFirstMisspelt, IsFirstBadByte, IsRootBlock, IsSize, Root, length-take, take_all, to_be_bytes, w64}
use Rattle.block_tree.proofs.Fields.{begins, begins_eight, begins_sixteen, kind_bad, fill_bad, gap_bad, size_bad, tail_bad, root_block}
use Rattle.block_tree.proofs.root.read_root.Goals as goal

pub returns-in_default : goal.returns-in_default
returns-in_default c =
    let long = ap length c.bytes-bytes.ensures.bytes ∙ c.bytes-bytes.ensures.long in
    subst (λ (b : List ℕ). IsFirstBadByte b 0) c.bytes-bytes.ensures.bytes (kind_bad c.bytes-bytes.result.now (omega arith) c.in_default.ensures.unknown)

pub returns-then-not-is_fill : goal.returns-then-not-is_fill
returns-then-not-is_fill c =
    let long = ap length c.bytes-bytes.ensures.bytes ∙ c.bytes-bytes.ensures.long in
    subst (λ (b : List ℕ). IsFirstBadByte b 1) c.bytes-bytes.ensures.bytes
    (fill_bad c.bytes-bytes.result.now c.in-Some.kind (omega arith) c.in-Some.ensures.known (λ is. let t = c.is_fill.ensures.1 is in cc))

pub returns-in-Some-first_nonzero : goal.returns-in-Some-first_nonzero
returns-in-Some-first_nonzero c =
    let bytes = c.bytes-bytes.result.now in
    let long = ap length c.bytes-bytes.ensures.bytes ∙ c.bytes-bytes.ensures.long in
    let bad = c.in-Some-first_nonzero.ensures.found in
    let is = begins bytes c.in-Some.kind (omega arith) c.in-Some.ensures.known (omega arith) (c.is_fill.ensures.0 c.if-not-is_fill.false) in
    subst (λ (b : List ℕ). IsFirstBadByte b (2 + c.in-Some-first_nonzero.i)) c.bytes-bytes.ensures.bytes
    (gap_bad bytes c.in-Some.kind (get_or bytes 1 0) c.in-Some-first_nonzero.i is (omega (arith, bad.0, length-take 2 (drop 2 bytes))) bad.1 bad.2)

pub returns-in-Err : goal.returns-in-Err
returns-in-Err c =
    let bytes = c.bytes-bytes.result.now in
    let same = c.bytes-bytes.ensures.bytes in
    let long = ap length same ∙ c.bytes-bytes.ensures.long in
    let two = begins bytes c.in-Some.kind (omega arith) c.in-Some.ensures.known (omega arith) (c.is_fill.ensures.0 c.if-not-is_fill.false) in
    let gap : length (take 2 (drop 2 bytes)) ≡ 2 = omega (arith, length-take 2 (drop 2 bytes), length-drop 2 bytes) in
    let zeros = c.in_default-first_nonzero.ensures.none ∙ ap (λ (n : ℕ). replicate n 0) gap in
    let eight = begins_eight bytes c.in-Some.kind (get_or bytes 1 0) c.u32_at-word.result two zeros (sym (c.u32_at-word.ensures.spelled ∙ ap (λ (b : List ℕ). take 4 (drop 4 b)) (sym same))) (omega arith) in
    let bad = c.in-Err.ensures in
    subst (λ (b : List ℕ). IsFirstBadByte b (8 + c.in-Err.i)) same
    (size_bad bytes c.in-Some.kind (get_or bytes 1 0) c.u32_at-word.result c.in-Err.i eight bad.0 (subst (λ (b : List ℕ). IsFirstMisspelt (IsSize c.in-Some.kind) (to_be_bytes w64) b c.in-Err.i) (c.u64_at.ensures.spelled ∙ ap (λ (b : List ℕ). take 8 (drop 8 b)) (sym same)) bad.1))

pub returns-in-Some-first_nonzero-2 : goal.returns-in-Some-first_nonzero-2
returns-in-Some-first_nonzero-2 c =
    let bytes = c.bytes-bytes.result.now in
    let same = c.bytes-bytes.ensures.bytes in
    let long = ap length same ∙ c.bytes-bytes.ensures.long in
    let two = begins bytes c.in-Some.kind (omega arith) c.in-Some.ensures.known (omega arith) (c.is_fill.ensures.0 c.if-not-is_fill.false) in
    let gap : length (take 2 (drop 2 bytes)) ≡ 2 = omega (arith, length-take 2 (drop 2 bytes), length-drop 2 bytes) in
    let zeros = c.in_default-first_nonzero.ensures.none ∙ ap (λ (n : ℕ). replicate n 0) gap in
    let eight = begins_eight bytes c.in-Some.kind (get_or bytes 1 0) c.u32_at-word.result two zeros (sym (c.u32_at-word.ensures.spelled ∙ ap (λ (b : List ℕ). take 4 (drop 4 b)) (sym same))) (omega arith) in
    let sixteen = begins_sixteen bytes c.in-Some.kind (get_or bytes 1 0) c.u32_at-word.result c.in-Ok.size eight (ap (λ (b : List ℕ). take 8 (drop 8 b)) same ∙ sym c.u64_at.ensures.spelled ∙ ap (to_be_bytes w64) (sym c.in-Ok.ensures.0)) c.in-Ok.ensures.1 in
    let bad = c.in-Some-first_nonzero-2.ensures.found in
    subst (λ (b : List ℕ). IsFirstBadByte b (16 + c.in-Some-first_nonzero-2.i)) same
    (tail_bad bytes c.in-Some.kind (get_or bytes 1 0) c.u32_at-word.result c.in-Ok.size c.in-Some-first_nonzero-2.i sixteen (omega (arith, bad.0, length-take 16 (drop 16 bytes))) bad.1 bad.2)

pub returns : goal.returns
returns c =
    let bytes = c.bytes-bytes.result.now in
    let same = c.bytes-bytes.ensures.bytes in
    let long = ap length same ∙ c.bytes-bytes.ensures.long in
    let two = begins bytes c.in-Some.kind (omega arith) c.in-Some.ensures.known (omega arith) (c.is_fill.ensures.0 c.if-not-is_fill.false) in
    let gap : length (take 2 (drop 2 bytes)) ≡ 2 = omega (arith, length-take 2 (drop 2 bytes), length-drop 2 bytes) in
    let zeros = c.in_default-first_nonzero.ensures.none ∙ ap (λ (n : ℕ). replicate n 0) gap in
    let eight = begins_eight bytes c.in-Some.kind (get_or bytes 1 0) c.u32_at-word.result two zeros (sym (c.u32_at-word.ensures.spelled ∙ ap (λ (b : List ℕ). take 4 (drop 4 b)) (sym same))) (omega arith) in
    let sixteen = begins_sixteen bytes c.in-Some.kind (get_or bytes 1 0) c.u32_at-word.result c.in-Ok.size eight (ap (λ (b : List ℕ). take 8 (drop 8 b)) same ∙ sym c.u64_at.ensures.spelled ∙ ap (to_be_bytes w64) (sym c.in-Ok.ensures.0)) c.in-Ok.ensures.1 in
    let tail : length (take 16 (drop 16 bytes)) ≡ 16 = omega (arith, length-take 16 (drop 16 bytes), length-drop 16 bytes) in
    let root : Root = record { kind = c.in-Some.kind; fill = get_or bytes 1 0; word = c.u32_at-word.result; size = c.in-Ok.size; nodes = c.read_pointers.new.into } in
    subst (λ (b : List ℕ). IsRootBlock b root) same
    (root_block bytes root long sixteen (c.in_default-first_nonzero-2.ensures.none ∙ ap (λ (n : ℕ). replicate n 0) tail)
    (c.read_pointers.ensures.spelled ∙ take_all 480 (take 480 (drop 32 bytes)) (omega (arith, length-take 480 (drop 32 bytes))) ∙ take_all 480 (drop 32 bytes) (omega (arith, length-drop 32 bytes))) (omega arith) c.read_pointers.ensures.fit)
