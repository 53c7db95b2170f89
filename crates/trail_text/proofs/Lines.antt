-- Lines as texts with words behind them, and the parts of an ask.
use Rattle.std.proofs.Common.{Bor, List, None, Some, [], ap, arith, drop, inl, inr, length, map, min, refl, sym, take, true, ℕ, ◌&&◌, ◌++◌, ◌-◌, ◌∙◌, ◌∷◌, ◌≡◌}
use Rattle.trail_text.proofs.Words.{Direct, LF, Puid, Reply, Request, and_from, and_parts, append-nil, append_assoc, are_within, ask_read, cases_lt, codes, decimal, drop-map, drop_all, event_line, event_within, flat_map-append, form_told, in_32, is_within, join_with_byte, length-drop, length-map, list_all-append, map-append, read_32, reply_line, reply_read, reply_tokens, reply_within, reply_words, request_read, request_tokens, request_within, request_words, spaced, spell, take_all, texts, word_at}
use Rattle.ufs_model.specs.declared.asked.Reply.TheVariants as replies
use Rattle.ufs_model.specs.declared.asked.Event.TheVariants as events
use Rattle.trail_text.specs.EventLine as tokens

-- the first word, and the others behind it
joined : (w : List ℕ) (ws : List (List ℕ)) → join_with_byte 32 (w ∷ ws) ≡ w ++ spaced ws
joined w [] = sym (append-nil w)
joined w (x ∷ ws) = ap (λ (t : List ℕ). w ++ 32 ∷ t) (joined x ws)

-- more words behind a line
more : (text : List ℕ) (xs ys : List (List ℕ)) → (text ++ spaced xs) ++ spaced ys ≡ text ++ spaced (xs ++ ys)
more text xs ys = append_assoc text (spaced xs) (spaced ys) ∙ ap (λ (t : List ℕ). text ++ t) (sym (flat_map-append (λ w. 32 ∷ w) xs ys))

-- the line of an answer, part by part
pub ask_line : (who : ℕ) (request : Request) (reply : Reply)
    → ((((codes "ask" ++ spaced (decimal who ∷ [])) ++ spaced (request_words request)) ++ spaced (codes "=" ∷ [])) ++ spaced (reply_words reply))
    ≡ event_line (events.Ask who request reply)
ask_line who request reply =
    let start : List ℕ = codes "ask" ++ spaced (decimal who ∷ []) in
    let told : List (List ℕ) = codes "=" ∷ reply_words reply in
    more (start ++ spaced (request_words request)) (codes "=" ∷ []) (reply_words reply) ∙ more start (request_words request) told
    ∙ more (codes "ask") (decimal who ∷ []) (request_words request ++ told) ∙ sym (joined (codes "ask") (decimal who ∷ (request_words request ++ told)))
    ∙ ap (λ (ws : List (List ℕ)). join_with_byte 32 (codes "ask" ∷ decimal who ∷ ws)) (sym (map-append spell (request_tokens request) (tokens.Text (codes "=") refl ∷ reply_tokens reply)))

pub ask_within : (who : ℕ) (request : Request) (reply : Reply) → (in_32 who && true) ≡ true → request_within request ≡ true → reply_within reply ≡ true
    → event_within (events.Ask who request reply) ≡ true
ask_within who request reply h i k =
    and_from (in_32 who) (are_within (request_tokens request ++ tokens.Text (codes "=") refl ∷ reply_tokens reply)) (and_parts (in_32 who) true h).0
    (list_all-append is_within (request_tokens request) (tokens.Text (codes "=") refl ∷ reply_tokens reply) ∙ and_from (request_within request) (reply_within reply) i k)

-- the line of what vanishes
pub vanish_line : (ids : List Puid)
    → (codes "vanish" ++ spaced (decimal (length ids) ∷ [])) ++ spaced (map spell (map (λ id. tokens.To (Direct id)) ids)) ≡ event_line (events.Vanish ids)
vanish_line ids =
    let rest : List (List ℕ) = map spell (map (λ id. tokens.To (Direct id)) ids) in
    more (codes "vanish") (decimal (length ids) ∷ []) rest ∙ sym (joined (codes "vanish") (decimal (length ids) ∷ rest))

-- a reply in a line is the line that a session is written
pub reply_is : (reply : Reply) → reply_line reply ≡ join_with_byte 32 (reply_words reply) ++ LF ∷ []
reply_is (replies.Disk None) = refl
reply_is (replies.Disk (Some moment)) = refl
reply_is reply = refl

-- ---- what is read

pub texts_left : (ws : List (Bor (List ℕ))) (at m : ℕ) → m ≡ min at (length ws)
    → texts (take (length ws - m) (drop m ws)) ≡ drop at (texts ws)
texts_left ws at m is =
    let whole = take_all (length ws - m) (drop m ws) (omega (arith, length-drop m ws)) in
    elim (cases_lt at (length ws)) [
      | inl inside ↦ let same : m ≡ at = omega (arith, is, inside) in rw (whole, same) (sym (drop-map (λ w. w.now) at ws))
      | inr past ↦
          let end : m ≡ length ws = omega (arith, is, past) in
          rw (whole, drop_all m ws (omega (arith, end))) (sym (drop_all at (texts ws) (omega (arith, past, length-map ws (λ w. w.now)))))
    ]

pub ask_is : (ws asked told : List (List ℕ)) (who : ℕ) (request : Request) (reply : Reply) → asked ≡ drop 2 ws → request ≡ request_read asked
    → told ≡ drop 1 (drop (length (request_words request)) asked) → reply ≡ reply_read (form_told request) told → who ≡ read_32 (word_at ws 1)
    → events.Ask who request reply ≡ ask_read ws
ask_is ws asked told who request reply first second third fourth fifth = rw (fifth, fourth, third, second, first) refl
