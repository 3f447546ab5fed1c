mod JudgedGraphs
mod AcceptedGraphs
