-- For the law on what a caller sees: what the buffers of the caller hold after a render, and the settings of all zeros.
use Rattle.std.proofs.Common.{◌≡◌, ◌≢◌, ◌∙◌, ◌<◌, ◌≤◌, ◌++◌, arith, ℕ, Bool, true, false, List, [], length, refl, subst, sym, ap, inl, inr, append_assoc}
use Rattle.std.specs.Prelude.{Option, Some, None, eqb, leb, option_map, take, drop, if◌then◌else◌}
use Rattle.std.proofs.lemmas.Bool.{eqb-false, leb-false, leb-true, ne_eqb}
use Rattle.std.proofs.lemmas.List.{append-nil, take-append-drop, take_all}
use Rattle.std.specs.Option.{ok_or, option_map_or}
use Rattle.tmpl_values.specs.Value.{Value}
use Rattle.tmpl_syntax.specs.Set.{Template, tree_named}
use Rattle.tmpl_syntax.specs.Tree.{Tree}
use Rattle.tmpl_meaning.specs.Meaning.{Fault, Rules, ran}
use Rattle.tmpl_tool.specs.Outcome.{Answer}
use Rattle.tmpl_tool.specs.Tool.{answer_of, unnamed}
use Rattle.tmpl_tool.specs.Source.{Bytes}
use Rattle.tmpl_c.specs.Filled.{Fills, Seen, fits, limit_text}
use Rattle.tmpl_c.specs.Held.{Replaces, held_answer}
use Rattle.tmpl_c.specs.Laws.{HasDefaults, HoldsPrefix, HoldsWhole, IsTextStatus, KeepsLimit, ReplacesAsOffered}
use Rattle.tmpl_c.specs.Laws.{TextHasStatus, TextHoldsPrefix, TextHoldsWhole}

pub holds_whole : HoldsWhole
holds_whole a room line_room out err (inl h) = by (fits room a) refl h.2
  where
    by : (b : Bool) → leb (length a.text) room ≡ b → 0 ≡ (if b then a.status else 6) → (take out.taken out.memory ≡ a.text) × (a.status ≡ 0)
    by true is e = (h.0.0.memory ∙ take_all room a.text (leb-true (length a.text) room is), sym e)
    by false is e = cc
holds_whole a room line_room out err (inr h) = let wrong = h.2 in cc

-- what there is room for, and the rest
parts : (bytes : Bytes) (room : ℕ) (s : Seen) → Fills bytes room s → bytes ≡ take s.taken s.memory ++ drop room bytes
parts bytes room s h = sym (take-append-drop room bytes) ∙ ap (λ (front : Bytes). front ++ drop room bytes) (sym h.0.memory)

pub holds_prefix : HoldsPrefix
holds_prefix a room line_room out err code (inl h) = (drop room a.text, parts a.text room out h.0)
holds_prefix a room line_room out err code (inr ((front, rest, is, fills), line, status)) = (
  drop room front ++ rest,
  is ∙ ap (λ (bytes : Bytes). bytes ++ rest) (parts front room out fills) ∙ append_assoc (take out.taken out.memory) (drop room front) rest,
)

pub has_defaults : HasDefaults
has_defaults = (λ s steps depth mode. rw (steps, depth, mode) refl, λ a. refl)

pub keeps_limit : KeepsLimit
keeps_limit most a limits = by (leb (length a.text) most) refl
  where
    any : eqb most 0 ≡ false
    any = ne_eqb most 0 limits

    by : (fit : Bool) → leb (length a.text) most ≡ fit → ((limit_text most a).text ≡ take most a.text)
        × (length a.text ≤ most → limit_text most a ≡ a) × (most < length a.text → (limit_text most a).status ≡ 6)
    by true w = let h = leb-true (length a.text) most w in
        (rw (any, w) (sym (take_all most a.text h)), λ fits. rw (any, w) refl, λ more. absurd (omega (arith, h, more)))
    by false w = let h = leb-false (length a.text) most w in
        (rw (any, w) refl, λ fits. absurd (omega (arith, h, fits)), λ more. rw (any, w) refl)

pub text_whole : TextHoldsWhole
text_whole a text line (inl h) = (h.0, h.1, sym h.2)
text_whole a text line (inr h) = let wrong = h.3 in cc

pub text_prefix : TextHoldsPrefix
text_prefix a text line code (inl h) = ([], sym h.0 ∙ sym (append-nil text))
text_prefix a text line code (inr h) = (h.0, h.1)

fault_status : (most : ℕ) (f : Option Fault) → IsTextStatus most (option_map_or (λ f. 1) f 0)
fault_status most None = inl refl
fault_status most (Some f) = inr (inl refl)

answer_status : (most : ℕ) (rules : Rules) (set : List Template) (name : Bytes) (value : Option Value) (found : Option Tree)
    → IsTextStatus most (answer_of (ok_or (option_map (λ tree. ran rules set name tree value) found) (unnamed name))).status
answer_status most rules set name value None = inr (inr (inl refl))
answer_status most rules set name value (Some tree) = fault_status most (ran rules set name tree value).fault

-- an answer under a limit has its status, or that of a text that does not fit
limited_status : (most : ℕ) (a : Answer) → IsTextStatus most a.status → IsTextStatus most (limit_text most a).status
limited_status most a h = by (eqb most 0) refl (leb (length a.text) most) refl
  where
    by : (none : Bool) → eqb most 0 ≡ none → (fit : Bool) → leb (length a.text) most ≡ fit → IsTextStatus most (limit_text most a).status
    by true e fit w = rw e h
    by false e true w = rw (e, w) h
    by false e false w = rw (e, w) (inr (inr (inr (inr (refl, eqb-false most 0 e)))))

pub text_status : TextHasStatus
text_status most rules set name value text line code (inl h) = subst (IsTextStatus most) (sym h.2)
    (limited_status most (held_answer rules false set name value) (answer_status most rules set name value (tree_named name set)))
text_status most rules set name value text line code (inr h) = subst (IsTextStatus most) (sym h.3) (inr (inr (inr (inl refl))))

kept_offered : (offered old new : List Template) → Replaces offered old new 0 → new ≡ offered
kept_offered offered old new (inl h) = h.0
kept_offered offered old new (inr h) = let wrong = h.1 in cc

kept_before : (offered old new : List Template) (code : ℕ) → Replaces offered old new code → code ≢ 0 → new ≡ old
kept_before offered old new code (inl h) not = absurd (not h.1)
kept_before offered old new code (inr h) not = h.0

pub replaces : ReplacesAsOffered
replaces = (kept_offered, kept_before)

pub ruleset seen = (holds_whole, has_defaults, keeps_limit)

pub ruleset texts = (text_whole, text_prefix, text_status, replaces)
