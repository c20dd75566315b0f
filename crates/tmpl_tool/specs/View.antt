-- What the program's own values stand for.
use Rattle.std.specs.Prelude.{map, option_map}
use Rattle.tmpl_meaning.specs.View.{rules_of}
use Rattle.tmpl_tool.specs.Words.{Wanted}
use Rattle.tmpl_tool.specs.declared.words.request.Request.{Request}

-- what a request asks for
abbrev pub request_seen : Request → Wanted
request_seen request = record {
  data_file = option_map (λ s. s.now) request.data_file;
  name = option_map (λ s. s.now) request.name;
  rules = rules_of request.options;
  print = request.print;
  files = map (λ s. s.now) request.files.items;
}
