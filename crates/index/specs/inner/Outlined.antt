-- Where the lists of an index lie. The contracts of private functions alone cite this.
use Rattle.std.specs.Prelude.{◌≤◌, ◌≡◌, false, length}
use Rattle.laws.specs.Search.{any}
use Rattle.index.specs.Index.{Index, count, misplaced_term, wrong_start, stray, most_terms, most_postings}

-- none of the rows applies that say where lists lie
pub record Outlined (I : Index) : Type 0 where
  pub even : length I.starts ≡ count I
  pub few_terms : count I ≤ most_terms
  pub few_postings : length I.postings ≤ most_postings
  pub terms_rise : any (count I) (misplaced_term I) ≡ false
  pub starts_rise : any (count I) (wrong_start I) ≡ false
  pub none_stray : stray I ≡ false
