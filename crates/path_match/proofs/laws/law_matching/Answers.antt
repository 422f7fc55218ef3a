use Rattle.path_match.proofs.MatchLaws.{root_alone, star_matches_any, test_shows}
use Rattle.path_match.proofs.PathLaws.{path_matches_itself}
use Rattle.path_match.proofs.laws.law_matching.Goals as goal

pub returns : goal.returns
returns c = record { shows = test_shows; root = root_alone; itself = path_matches_itself; star = star_matches_any }
