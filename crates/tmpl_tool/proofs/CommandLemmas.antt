-- For `parse`: the command is a simple one of clap's, and a fault among several is a refusal.
use Rattle.std.proofs.Common.{◌≡◌, ◌≢◌, ◌∙◌, true, List, [], ◌∷◌, ap}
use Rattle.clap.specs.Words.{App, Kinds, IsAmong, Text, fault_of, is_simple, is_simple_and_free, matches_of}
use Rattle.clap.specs.declared.error.ErrorKind.{ErrorKind}
use Rattle.tmpl_tool.specs.Words.{HasModeNames, Modes, tool_app, words_fault, words_rows}
use Rattle.tmpl_tool.proofs.ModeNameLemmas.{lies_anywhere}

-- clap's command is that of the definition, wherever the four words of `--missingkey` lie
module _ (modes : Modes) (named : HasModeNames modes) (app : App) (is : app ≡ tool_app modes) where
  pub app-simple : is_simple app ≡ true
  app-simple = ap is_simple is

  pub app-free : is_simple_and_free app ≡ true
  app-free = ap is_simple_and_free is

  pub app-fault : (words : List Text) → fault_of app words ≡ words_fault words
  app-fault words = ap (λ (a : App). fault_of a words) is ∙ (lies_anywhere modes named words).0

  pub app-rows : (words : List Text) → matches_of app words ≡ words_rows words
  app-rows words = ap (λ (a : App). matches_of a words) is ∙ (lies_anywhere modes named words).1

pub among-some : (k : ErrorKind) (ks : Kinds) → IsAmong k ks → ks ≢ []
among-some k [] h e = h
among-some k (x ∷ xs) h e = cc
