-- For `document` of SARIF: the rules of the code are those that are told, and a log by its parts.
use Rattle.std.proofs.Common.{◌≡◌, ◌∙◌, ◌++◌, ℕ, List, [], ◌∷◌, ap, append_assoc, codes, map, refl}
use Rattle.serde_json.specs.Written.{compact_text}
use Rattle.tmpl_problems.specs.declared.rule.Rule.{Rule}
use Rattle.tmpl_problems.specs.Finding.{Finding}
use Rattle.tmpl_problems.specs.Json.{lines_between}
use Rattle.tmpl_problems.specs.Rules.{rules}
use Rattle.tmpl_problems.specs.Sarif.{descriptor_of, log_begin, log_of, result_of}

abbrev pub texts : Rule → List ℕ × List ℕ
texts rule = (rule.id.now, rule.text.now)

abbrev pub told : List Rule → List ℕ
told all = lines_between (map (λ rule. compact_text (descriptor_of (rule.id.now, rule.text.now))) all)

rules_told : (all : List Rule) → map texts all ≡ rules → told all ≡ lines_between (map (λ rule. compact_text (descriptor_of rule)) rules)
rules_told all same = ap lines_between (map_map all ∙ ap (map (λ rule. compact_text (descriptor_of rule))) same)
  where
    map_map : (all : List Rule) → map (λ (rule : Rule). compact_text (descriptor_of (rule.id.now, rule.text.now))) all
        ≡ map (λ rule. compact_text (descriptor_of rule)) (map texts all)
    map_map [] = refl
    map_map (rule ∷ all) = ap (λ t. compact_text (descriptor_of (texts rule)) ∷ t) (map_map all)

regrouped : (a b c d e : List ℕ) → a ++ (b ++ (c ++ (d ++ e))) ≡ (((a ++ b) ++ c) ++ d) ++ e
regrouped a b c d e = simp append_assoc

pub log_parted : (all : List Rule) (found : List Finding) → map texts all ≡ rules → log_begin ++ (told all ++ (codes "\n]}},\"columnKind\":\"unicodeCodePoints\",\"results\":["
    ++ (lines_between (map (λ f. compact_text (result_of f)) found) ++ codes "\n]}]}\n"))) ≡ log_of found
log_parted all found same =
    let results = lines_between (map (λ f. compact_text (result_of f)) found) in
    ap (λ t. log_begin ++ (t ++ (codes "\n]}},\"columnKind\":\"unicodeCodePoints\",\"results\":[" ++ (results ++ codes "\n]}]}\n")))) (rules_told all same)
    ∙ regrouped log_begin (lines_between (map (λ rule. compact_text (descriptor_of rule)) rules))
    (codes "\n]}},\"columnKind\":\"unicodeCodePoints\",\"results\":[") results (codes "\n]}]}\n")
