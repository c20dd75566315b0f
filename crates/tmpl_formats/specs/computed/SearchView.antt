-- What a search stands for.
use Rattle.tmpl_formats.specs.computed.PatternMarks as computed
use Rattle.tmpl_formats.specs.PatternView.{marks_of}
use Rattle.tmpl_formats.specs.declared.pattern_search.Search.{Search}

abbrev pub search_of : Search → computed.Search
search_of search = record { marks = marks_of search.root; is_first = search.is_first; found = search.found }
