use Rattle.tmpl_problems.proofs.UriLemmas.{encoded_path}
use Rattle.tmpl_problems.proofs.sarif.uri_of.Goals as goal

pub returns : goal.returns
returns c = rw (
  c.in_ok-append_to.ensures.ok,
  c.in_ok-uri.ensures.ok,
  c.scheme_of.ensures,
  c.utf8_percent_encode.ensures.text,
  encoded_path c.args.file.now,
)
